pub mod Listing
pub mod Walk
