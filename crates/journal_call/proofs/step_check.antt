-- The proofs that belong to no function.
pub mod Stretching
pub mod Piecing
pub mod Wholes
pub mod Answering
