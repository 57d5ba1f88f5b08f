-- Computed cases. They check the definitions; a reader does not have to trust them.
pub mod Schedules
