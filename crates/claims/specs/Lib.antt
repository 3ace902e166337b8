pub mod Terms
pub mod Claims
pub mod Worked
pub mod Laws
