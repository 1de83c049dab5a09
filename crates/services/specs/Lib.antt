pub mod Table
pub mod Output
