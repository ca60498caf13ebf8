pub mod Padding
pub mod WeylElement
pub mod Descents
pub mod Laws
pub mod Orders
