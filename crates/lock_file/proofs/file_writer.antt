-- The proofs of the laws, and what they use.
pub mod Cases
pub mod Lengths
pub mod Entries
pub mod Refusing
pub mod Answering
pub mod Describing
pub mod Shortest
pub mod WritingLaws
pub mod Longest
