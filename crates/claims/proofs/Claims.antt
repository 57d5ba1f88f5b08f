-- The third demand: what holds along every schedule from fresh, and the claim for a list of calls.
pub mod Reached
pub mod Alone
pub mod InOrder
pub mod Bounded
pub mod Calls
pub mod Demand
pub mod Accepts
pub mod Equality
pub mod PassedCounts
pub mod Passing
pub mod Acting
pub mod QueueLaw
pub mod FewWaiting
pub mod Moving
