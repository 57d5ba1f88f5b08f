-- The third demand; what holds in every state reached from fresh; computed examples of both. Their definitions are in `model`.
pub mod Claim
pub mod Reached
pub mod RefusedCalls
pub mod Tenures
pub mod Cases
