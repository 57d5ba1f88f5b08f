-- What the check compares. The definitions that the call meets are in `journal`.
pub mod Kinds
pub mod Reader
pub mod Pieces
pub mod StepCheck
pub mod Journals
