pub mod Checking
pub mod Deciding
