-- The longest wait: its bound as a function of the tree, the entries that it counts, the laws, and computed cases.
pub mod Bounds
pub mod InLine
pub mod Laws
