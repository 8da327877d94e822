pub mod Bits
pub mod Number
pub mod Crc
pub mod Laws
