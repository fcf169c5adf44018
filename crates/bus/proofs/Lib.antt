pub mod Names
pub mod Single
pub mod Texts
mod Pausing
mod Counting
