pub mod Texts
pub mod Pieces
pub mod Read
pub mod BlockValues
pub mod Meanings
pub mod Modelled
pub mod Examples
