pub mod Text
pub mod Reads
pub mod Laws
pub mod States
pub mod Writes
