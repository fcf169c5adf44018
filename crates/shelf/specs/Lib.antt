pub mod Model
pub mod Laws
pub mod Serving
pub mod Ways
