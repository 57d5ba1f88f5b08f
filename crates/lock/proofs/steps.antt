-- Facts about the steps of a run.
pub mod Taken
pub mod SoFar
pub mod Typing
pub mod Turns
pub mod StepCodes
pub mod Reporting
pub mod Answering
pub mod Starting
pub mod Above
pub mod StepEntries
pub mod StepTenures
pub mod StepCounts
pub mod Tallying
pub mod Looking
pub mod Trying
pub mod CounterLimits
