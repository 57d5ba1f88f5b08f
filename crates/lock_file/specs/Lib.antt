-- The definitions about the lock file that a reader must trust, in the order of document 01. The proofs of the laws are in proofs/.
pub mod Reading
pub mod Results
pub mod Answers
pub mod Format
pub mod ReadingLaws
pub mod PrintedListing
pub mod FileAnswers
pub mod FileWriter
pub mod Cases
