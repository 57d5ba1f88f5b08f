-- The proofs.
pub mod Refusing
pub mod Buffers
pub mod Reporting
pub mod Cases
pub mod Witnesses
