-- The proof of the third demand, and of what holds in every state reached from fresh: the queues, the words that represent them, and the claims.
pub mod Queues
pub mod Words
pub mod Sums
pub mod Claims
pub mod RefusedCalls
pub mod MoveCases
pub mod Witnesses
