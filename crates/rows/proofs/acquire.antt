-- Facts about the rows of the acquire.
pub mod Acquiring
