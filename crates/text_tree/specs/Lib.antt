-- The definitions that a reader must trust: the grammar, what reading answers, the laws and cases. Words and Reading describe how the reader works.
pub mod Grammar
pub mod Words
pub mod Reading
pub mod Answers
pub mod TextLaws
pub mod Cases
