-- What a piece of a journal is. The definition of an entry is in `journal`, that of consecutive entries in Reader.
pub mod Pieces
