-- The definitions about the check of a state that a reader must trust. The proofs of the laws are in proofs/.
pub mod Answers
pub mod Laws
