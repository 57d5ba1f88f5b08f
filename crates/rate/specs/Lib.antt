-- The definitions about the rate that a reader must trust, in the order of document 02, (xiii). The proofs of the laws are in proofs/.
pub mod Rate
pub mod Answers
pub mod Laws
pub mod Cases
