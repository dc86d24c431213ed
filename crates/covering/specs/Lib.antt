pub mod Chosen
pub mod Times
pub mod Claims
