-- Computed cases and witnesses. They check the definitions; a reader does not have to trust them.
pub mod Kinds
pub mod Witnesses
