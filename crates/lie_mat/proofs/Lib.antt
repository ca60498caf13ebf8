pub mod Products
pub mod KeptLemmas
