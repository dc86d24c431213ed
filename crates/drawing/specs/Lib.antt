pub mod Sets
pub mod Column
pub mod Drawing
pub mod Reach
pub mod Values
pub mod Refusals
pub mod Calls
pub mod Tables
