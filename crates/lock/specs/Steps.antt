-- What the functions inside the calls promise about the words that they read and store.
pub mod Running
pub mod Counting
