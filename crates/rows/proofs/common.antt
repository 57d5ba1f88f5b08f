-- Facts that the proofs of all rows share.
pub mod RowPlaces
pub mod Counts
pub mod Shown
pub mod Staying
