-- The proofs of the laws and of the computed cases.
pub mod Law
pub mod RoundsLaw
pub mod Cases
pub mod WaitBoundsLaw
pub mod Witnesses
