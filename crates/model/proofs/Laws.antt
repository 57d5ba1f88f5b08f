-- The laws of the step table and the refusals: runs and counts, refusals, accepted calls and empty domains, form, kinds, words.
pub mod Runs
pub mod Passed
pub mod Refusals
pub mod Calls
pub mod Empty
pub mod Facts
pub mod Form
pub mod FromFresh
pub mod Kinds
pub mod Others
pub mod Words
pub mod Unread
pub mod Search
pub mod Root
pub mod Given
pub mod Counters
pub mod Reporting
