-- The definitions about the check of a journal that a reader must trust, in the order of document 02, (xiv). The proofs of the laws are in proofs/.
pub mod Entries
pub mod Reading
pub mod Answers
pub mod Laws
pub mod StepCheck
pub mod Cases
