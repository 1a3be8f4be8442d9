pub mod Limits
pub mod Receivers
pub mod Restock
pub mod Season
pub mod Sweep
pub mod Upkeep
pub mod UpkeepTaken
