pub mod Chain
pub mod Laws
pub mod Signs
pub mod Size
pub mod Spins
