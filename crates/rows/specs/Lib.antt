-- What the contracts of rows say: the numbers of kinds, common parts, acquire, release, and one step.
pub mod Kinds
pub mod Common
pub mod Acquire
pub mod Release
pub mod Step
