pub mod Text
pub mod Sections
pub mod Reading
pub mod Meaning
