-- The proofs.
pub mod Stays
pub mod Chains
pub mod Refusing
pub mod Reached
pub mod Cases
