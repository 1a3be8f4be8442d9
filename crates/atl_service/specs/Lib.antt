pub mod Found
pub mod Opened
pub mod Upgraded
pub mod Files
