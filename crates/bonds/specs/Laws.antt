pub mod Exact
pub mod Limits
