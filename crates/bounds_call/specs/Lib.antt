-- What the functions inside the calls read from and leave in their arrays. The definitions that the calls meet are in `bounds`.
pub mod Arrays
pub mod Waits
