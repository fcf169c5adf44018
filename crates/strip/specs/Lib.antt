pub mod Image
pub mod Orders
