-- The definitions about waits that a reader must trust, in the order of document 02, (vi). The proofs of the laws are in proofs/.
pub mod Attempts
pub mod Rows
pub mod Refusals
pub mod Answers
pub mod Laws
pub mod GoingOn
pub mod Meanings
pub mod Cases
