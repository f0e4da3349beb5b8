pub mod Device
pub mod Known
pub mod NameQueue
pub mod NameTable
pub mod News
