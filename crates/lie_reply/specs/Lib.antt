pub mod Texts
pub mod Commands
pub mod Laws
pub mod Modules
