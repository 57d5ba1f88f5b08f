-- Computed cases and witnesses. They check the definitions; a reader does not have to trust them.
pub mod Moving
pub mod Tenures
pub mod Witnesses
