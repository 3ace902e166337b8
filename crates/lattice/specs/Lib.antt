pub mod Lattice
pub mod Shape
pub mod Tables
pub mod Examples
