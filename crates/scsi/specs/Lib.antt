pub mod Rows
pub mod Messages
pub mod Borrowed
pub mod Greetings
pub mod Commands
pub mod Cases
pub mod Kept
pub mod Words
