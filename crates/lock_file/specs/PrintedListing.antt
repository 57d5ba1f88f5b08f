-- The definitions about numerals and the printed listing that a reader must trust. The proof of the law is in proofs/.
pub mod Listing
pub mod ListingLaws
