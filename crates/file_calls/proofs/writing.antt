-- What several proofs use.
pub mod Writers
pub mod Stored
pub mod Trees
pub mod Testing
