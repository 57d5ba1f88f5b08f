-- What the tests of the calls establish about the arrays that they read.
pub mod Arrays
pub mod Lowest
pub mod OfRuns
pub mod Paths
pub mod Reasons
pub mod StateCheck
pub mod Cases
