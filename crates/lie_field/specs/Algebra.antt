-- Lemmas that the law of a field's value needs, in the order in which they rest on one another.
-- For proofs: no public clause cites it.
pub mod Lists
pub mod Shifts
pub mod Digits
pub mod Laws
pub mod Scalars
pub mod Reach
pub mod Powers
pub mod IntegerPowers
pub mod FieldTest
