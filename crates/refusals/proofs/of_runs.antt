-- Facts about the tests of a state that the proofs of the functions use.
pub mod Owning
pub mod Members
pub mod PlaceTests
pub mod Resting
pub mod Folds
pub mod Marking
pub mod Formed
pub mod Counts
pub mod StateTests
pub mod Passing
