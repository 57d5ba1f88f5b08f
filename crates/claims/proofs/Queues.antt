-- The abstract layer of the third demand: a tree of queues, its moves, its invariant, and the three claims about every run of moves.
pub mod Paths
pub mod Moves
pub mod Changes
pub mod Invariant
pub mod Meeting
pub mod Joined
pub mod Keeps
pub mod Order
pub mod Remaining
pub mod Allowance
pub mod Handovers
pub mod Unblocked
