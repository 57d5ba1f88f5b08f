-- What several proofs use.
pub mod Filling
pub mod Words
pub mod Capped
pub mod WaitSums
pub mod WaitWords
pub mod RoundWords
pub mod Answers
