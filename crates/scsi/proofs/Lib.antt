pub mod Roundtrip
pub mod Worked
