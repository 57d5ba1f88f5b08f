-- The calls in place, refusals, versions and struct sizes.
pub mod InPlace
pub mod Answers
pub mod Versions
