-- The proof that the listing and the step table agree.
pub mod Stacks
pub mod Entries
pub mod Acquiring
pub mod Returning
pub mod Releasing
pub mod Tickets
pub mod Standing
pub mod Differing
pub mod Agreement
