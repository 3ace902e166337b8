pub mod Numbers
pub mod Refusals
pub mod Promise
pub mod Table
pub mod Cases
pub mod Each
