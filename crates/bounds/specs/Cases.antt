-- Computed cases and witnesses. They check the definitions; a reader does not have to trust them.
pub mod Answers
pub mod LongestWait
pub mod StarvationFreedom
pub mod Witnesses
