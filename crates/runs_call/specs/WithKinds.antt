-- What the functions inside the call promise. The definitions that the call meets are in `kinds`.
pub mod Spreading
