pub mod Joined
pub mod NumberNames
pub mod Parts
pub mod Pieces
pub mod Signed
pub mod Text
