-- The definitions about writing the lock file that a reader must trust, in the order of document 02, (v). The proofs of the laws are in proofs/.
pub mod Writing
pub mod Refusals
pub mod Answers
pub mod Laws
