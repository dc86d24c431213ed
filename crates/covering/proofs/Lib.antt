pub mod RivalCover
pub mod RivalTimes
pub mod AnyCover
pub mod ChosenCover
pub mod Passes
pub mod Filled
