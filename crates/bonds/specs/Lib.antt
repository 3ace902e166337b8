pub mod Bond
pub mod Classes
pub mod Activation
pub mod Visit
pub mod Examples
pub mod Laws
