-- What the code stores. The definitions that the call meets are in `schedules`.
pub mod Numbers
