pub mod Checks
pub mod Errors
pub mod Gets
pub mod Headers
pub mod Items
pub mod Output
pub mod ShapeNumbers
pub mod Views
