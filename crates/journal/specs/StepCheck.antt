-- The definitions about the check of steps that a reader must trust. The proofs of the laws are in proofs/.
pub mod Answers
pub mod Laws
