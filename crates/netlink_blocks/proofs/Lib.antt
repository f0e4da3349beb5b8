pub mod BlockAttributes
pub mod Headers
pub mod Indexing
