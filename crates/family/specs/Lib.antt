pub mod Family
pub mod Supplied
pub mod Folds
