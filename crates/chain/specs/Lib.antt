-- The definitions about the chain that a reader must trust, in the order of document 02, (x). The proofs of the laws are in proofs/.
pub mod Chain
pub mod Answers
pub mod Laws
pub mod Cases
