-- Computed cases and witnesses. They check the definitions; a reader does not have to trust them.
pub mod Marked
pub mod Claim
pub mod Ticket
pub mod Counters
pub mod Witnesses
