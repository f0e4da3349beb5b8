pub mod Address
pub mod AddressFlags
pub mod Neighbour
pub mod NeighbourTable
pub mod NetworkConfiguration
pub mod Prefix
