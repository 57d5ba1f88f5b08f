-- The proofs of the laws and the cases; the proof of each function is in its folder.
pub mod Bounds
pub mod Operations
pub mod Tests
pub mod Rounding
pub mod Units
pub mod Cases
pub mod Witnesses
