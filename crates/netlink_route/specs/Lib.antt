pub mod Names
pub mod NextHops
