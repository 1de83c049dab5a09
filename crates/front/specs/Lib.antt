pub mod Refusals
pub mod Changes
pub mod Next
pub mod Answers
