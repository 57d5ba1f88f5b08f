-- What holds for the entries, tenures and longest tenure of each domain.
pub mod Laws
