pub mod Xoshiro
pub mod Laws
pub mod Examples
