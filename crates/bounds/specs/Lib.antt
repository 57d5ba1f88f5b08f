-- The definitions about the calls for allowances, rounds and wait bounds that a reader must trust. The proofs are in proofs/.
pub mod Answers
pub mod Laws
pub mod StarvationFreedom
pub mod LongestWait
pub mod Cases
