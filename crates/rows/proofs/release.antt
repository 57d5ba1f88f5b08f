-- Facts about the rows of the release.
pub mod Leaving
