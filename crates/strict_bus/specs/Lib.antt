pub mod Text
pub mod Means
pub mod Stages
pub mod Holding
pub mod Keeping
