pub mod FieldLaws
pub mod Fields
pub mod Grammar
pub mod Json
pub mod JsonLaws
pub mod Strings
