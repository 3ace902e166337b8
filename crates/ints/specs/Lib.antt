pub mod Ints
pub mod Fits
