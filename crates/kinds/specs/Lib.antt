-- The definitions that a reader must trust about a run that reports the kind and domain of each step. The proofs of the laws are in proofs/.
pub mod Answers
pub mod Laws
pub mod Cases
