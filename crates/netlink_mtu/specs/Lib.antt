pub mod Mtu
