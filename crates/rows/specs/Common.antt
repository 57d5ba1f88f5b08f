-- Definitions about where a thread is, what is counted, and when a row is done.
pub mod Standing
pub mod Counting
pub mod Rows
