-- The records on a thread's path.
pub mod Records
