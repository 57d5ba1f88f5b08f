-- The proofs of the laws, and what they use.
pub mod Cases
pub mod Digits
pub mod Complete
pub mod Laying
pub mod Stored
pub mod OneReading
pub mod Sound
pub mod Places
pub mod Deciding
pub mod Blocks
pub mod Shapes
pub mod Passing
