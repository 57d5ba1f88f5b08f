-- What several proofs use.
pub mod Fronts
pub mod Sizes
pub mod Fours
