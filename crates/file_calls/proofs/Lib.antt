-- What several proofs use.
pub mod Copying
