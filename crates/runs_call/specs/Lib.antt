-- What the functions inside the calls promise: many schedules, waits, kinds.
pub mod ManySchedules
pub mod WithWaits
pub mod WithKinds
