-- What several proofs use.
pub mod Writing
pub mod Digits
pub mod Printing
