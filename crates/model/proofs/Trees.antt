-- Facts about trees: which of their words are read; and for accepted trees, paths by index, records and members, where paths meet, allowances.
pub mod Reading
pub mod Index
pub mod Accepted
pub mod Tickets
pub mod Paths
pub mod Records
pub mod Allowances
