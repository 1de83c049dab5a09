pub mod Choice
pub mod Loops
