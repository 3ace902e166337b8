-- What a reader must believe: Call, Sizes, Observation, Update. What the private functions' contracts say: Inside. The proofs' laws are in proofs/Laws.
pub mod Call
pub mod Sizes
pub mod Observation
pub mod Update
pub mod Inside
pub mod Samples
pub mod Examples
