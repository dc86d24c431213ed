pub mod Limits
pub mod Truth
pub mod Netlist
pub mod Laws
pub mod Netlists
pub mod Covers
pub mod Evaluate
