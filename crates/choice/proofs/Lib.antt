pub mod Taken
pub mod Optimal
pub mod OwnCover
pub mod Needed
pub mod Marking
pub mod Choosing
pub mod Filling
pub mod Cells
