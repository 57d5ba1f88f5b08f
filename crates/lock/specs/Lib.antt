-- What a step and a run report besides state and trace.
pub mod Lent
pub mod Steps
