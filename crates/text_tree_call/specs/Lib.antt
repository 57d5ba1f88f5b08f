-- What the functions inside the reader promise. The definitions that the reader meets are in `text_tree`.
pub mod Inner
