-- What the tests of a state establish about the arrays that they read.
pub mod Tables
pub mod Counts
