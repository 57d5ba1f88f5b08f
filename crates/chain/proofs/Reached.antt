-- The chain in states reached from fresh: which thread a thread waits for, that the chain ends, and what its links guarantee.
pub mod Orders
pub mod Rows
pub mod Actors
pub mod Ahead
pub mod Holding
pub mod Falling
pub mod Staying
pub mod Waiting
