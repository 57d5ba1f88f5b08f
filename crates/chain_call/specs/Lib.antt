-- What the tables of the code contain. The definitions that the call meets are in `chain`.
pub mod Tables
