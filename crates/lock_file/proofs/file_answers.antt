-- The proofs of the laws and of the computed cases.
pub mod Computing
pub mod Cases
pub mod FileRunLaw
pub mod FileRefusalLaw
pub mod FileClaim
pub mod RoomLaw
