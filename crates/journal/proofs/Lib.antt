-- The proofs of the laws, and what they use.
pub mod Facts
pub mod Fronts
pub mod Checking
pub mod Walking
pub mod Deciding
pub mod Writing
pub mod Cases
