pub mod Agent
pub mod Front
