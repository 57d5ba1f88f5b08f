-- The definitions about the file call that a reader must trust, in the order of document 01. The proofs of the laws are in proofs/.
pub mod FileAnswers
pub mod FileLaws
