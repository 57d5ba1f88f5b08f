-- What one step stores and counts, given the words that it reads.
pub mod OneStep
pub mod Counting
