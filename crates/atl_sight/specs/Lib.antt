pub mod Watching
pub mod Units
pub mod Each
pub mod Events
