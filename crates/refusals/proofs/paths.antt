-- Facts about the search for a child on a path.
pub mod Children
