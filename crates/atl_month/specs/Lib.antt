pub mod Month
pub mod OneEvent
pub mod Unmailed
