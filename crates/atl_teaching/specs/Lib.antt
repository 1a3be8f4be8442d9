pub mod Teach
pub mod Learners
pub mod Limits
