-- What several proofs use.
pub mod Outcomes
pub mod FileRun
