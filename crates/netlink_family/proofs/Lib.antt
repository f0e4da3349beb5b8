pub mod Appending
pub mod ByteLines
pub mod CanonicalPayloads
pub mod Frames
pub mod Lines
pub mod Payloads
pub mod PushedNumbers
