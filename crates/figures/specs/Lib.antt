pub mod Entries
pub mod Figures
