-- The proofs that belong to no function.
pub mod Refused
pub mod Spreading
pub mod Answering
