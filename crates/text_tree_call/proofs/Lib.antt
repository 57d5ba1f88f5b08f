-- What several proofs use.
pub mod Moving
pub mod Limits
pub mod Parts
