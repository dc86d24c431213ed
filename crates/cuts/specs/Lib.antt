pub mod Limits
pub mod Cuts
pub mod Antichain
pub mod Leaves
pub mod Merging
pub mod Lists
pub mod Claims
