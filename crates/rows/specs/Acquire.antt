-- What the rows of the acquire promise about the words that they read and store.
pub mod Rows
