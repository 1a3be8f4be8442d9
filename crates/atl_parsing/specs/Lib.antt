pub mod Routes
pub mod Routing
pub mod Fields
pub mod Checks
pub mod Heads
pub mod Replies
pub mod Finding
