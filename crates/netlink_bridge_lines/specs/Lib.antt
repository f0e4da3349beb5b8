pub mod MulticastGroup
pub mod Sources
pub mod Statistics
pub mod Vlan
pub mod Vni
pub mod Words
