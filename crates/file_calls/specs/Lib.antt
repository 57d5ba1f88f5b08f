-- What the functions inside the calls promise.
pub mod Replies
pub mod Writers
