-- The proofs of the laws and of the computed cases, and what they use.
pub mod Cases
pub mod Numerals
pub mod NumeralLaw
pub mod OneNumeral
pub mod Lengths
pub mod Witnesses
