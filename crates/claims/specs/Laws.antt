pub mod Accepted
pub mod Drawn
pub mod Largest
pub mod Coins
pub mod Calls
