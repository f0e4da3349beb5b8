pub mod Ending
pub mod Lines
pub mod PingPong
pub mod PingPongLaws
pub mod Run
pub mod Zeros
pub mod ZerosLaws
