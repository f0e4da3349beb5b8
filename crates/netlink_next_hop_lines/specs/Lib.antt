pub mod Bucket
pub mod Group
pub mod NextHop
pub mod Time
