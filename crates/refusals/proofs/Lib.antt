-- Facts about the tests of trees, schedules and runs that the proofs of the functions use.
pub mod Reading
pub mod Scanning
pub mod Ranges
pub mod Levels
pub mod Homes
pub mod Meeting
pub mod ScheduleTests
pub mod Joining
pub mod Refusing
pub mod TreeTests
pub mod Domains
pub mod Occupying
