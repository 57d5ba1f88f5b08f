-- What the rows of the release promise about the words that they read and store.
pub mod Rows
