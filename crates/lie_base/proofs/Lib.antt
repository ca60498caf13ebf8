pub mod Whole
pub mod RingSolver
pub mod Members
