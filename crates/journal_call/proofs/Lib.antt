-- What several proofs use.
pub mod Stepping
pub mod Journaling
