-- No thread starves: the bounds, the laws for fair schedules, and computed cases.
pub mod Bounds
pub mod Laws
