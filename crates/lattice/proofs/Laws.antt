pub mod Radix
pub mod Neighbours
pub mod Coordinates
pub mod Axis
pub mod Shape
pub mod Rows
pub mod Tables
