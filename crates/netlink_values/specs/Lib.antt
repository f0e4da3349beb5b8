pub mod Flags
pub mod Parts
pub mod RouteFlags
