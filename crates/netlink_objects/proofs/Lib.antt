pub mod Groups
pub mod Hops
pub mod Items
pub mod Loops
pub mod Properties
pub mod Words
