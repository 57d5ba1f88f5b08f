-- What several proofs use.
pub mod Counting
pub mod Walking
pub mod Acting
pub mod Noting
pub mod Facts
pub mod Filling
pub mod Linking
pub mod Following
pub mod Turning
pub mod Answering
