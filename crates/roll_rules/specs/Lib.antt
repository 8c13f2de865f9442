pub mod Answers
pub mod EntriesBefore
pub mod Rules
