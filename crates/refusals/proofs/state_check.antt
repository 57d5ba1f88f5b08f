-- The proofs.
pub mod Checking
pub mod Cases
