-- Computed cases and witnesses. They check the definitions; a reader does not have to trust them.
pub mod Reading
pub mod FileAnswers
pub mod FileAnswersWitnesses
pub mod FileWriter
pub mod PrintedListing
pub mod PrintedListingWitnesses
