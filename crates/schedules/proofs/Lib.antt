-- The proofs of the laws and the cases.
pub mod Cutting
pub mod Refusing
pub mod Alone
pub mod Answering
pub mod Cases
