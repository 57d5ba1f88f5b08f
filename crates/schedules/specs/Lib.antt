-- The definitions about many schedules in one call that a reader must trust, in the order of document 02, (xi). The proofs of the laws are in proofs/.
pub mod Rows
pub mod Refusals
pub mod Answers
pub mod Laws
pub mod Cases
