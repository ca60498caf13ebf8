pub mod Loading
pub mod Groups
