-- How the words of a domain represent its queue, and that each row of the step table is a move of the queues.
pub mod Links
pub mod View
pub mod Represents
pub mod Says
pub mod Tickets
pub mod Frame
pub mod Joining
pub mod Releasing
pub mod Handing
pub mod Granting
pub mod Outcome
pub mod Acquiring
pub mod Drawing
pub mod Raising
pub mod Leaving
pub mod Steps
