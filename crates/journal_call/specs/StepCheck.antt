-- What the functions inside the call promise. The definitions that the call meets are in `journal`.
pub mod Stretches
