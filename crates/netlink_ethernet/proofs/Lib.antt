pub mod Equal
pub mod Rows
pub mod Search
