pub mod Chosen
pub mod Hops
pub mod Labels
pub mod Pieces
pub mod Segments
