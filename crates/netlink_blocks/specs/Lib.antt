pub mod Finding
pub mod FindingLaws
pub mod Index
pub mod Iteration
pub mod IterationLaws
pub mod Show
pub mod ShowLaws
pub mod Values
