pub mod Starts
pub mod Times
