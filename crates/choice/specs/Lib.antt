pub mod Choice
pub mod Rivals
pub mod Marks
