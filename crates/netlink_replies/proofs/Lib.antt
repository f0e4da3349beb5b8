pub mod ReadLemmas
pub mod Readings
pub mod Grouping
pub mod Ending
pub mod Values
pub mod PlaceLemmas
pub mod PathLemmas
