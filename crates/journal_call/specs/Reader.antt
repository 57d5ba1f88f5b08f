-- What the reader reads. The definition of an entry is in `journal`.
pub mod Stretches
