-- Facts about one step.
pub mod StepCounted
pub mod StepTaken
pub mod TakenHere
