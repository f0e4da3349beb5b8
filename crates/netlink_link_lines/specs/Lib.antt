pub mod Flags
pub mod Hardware
pub mod Link
pub mod LinkAddress
pub mod LinkParts
pub mod LinkProperties
pub mod LinkSpaces
