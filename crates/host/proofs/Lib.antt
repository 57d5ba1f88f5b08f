-- What a fresh call in place leaves, and that a step in place is a call of the third demand's lists.
pub mod InPlace
