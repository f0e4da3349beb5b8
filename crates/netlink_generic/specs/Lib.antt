pub mod Groups
pub mod Names
pub mod Replies
