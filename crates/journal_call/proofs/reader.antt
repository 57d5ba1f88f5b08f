-- What several proofs use.
pub mod Stretching
