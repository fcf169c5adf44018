pub mod Device
pub mod Making
pub mod Disk
pub mod Recorder
pub mod Pair
pub mod Cases
