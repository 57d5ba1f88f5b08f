-- What the proofs of the functions share; the proof of each function is in its folder.
pub mod Adding
pub mod Answering
pub mod Storing
pub mod FreshRow
