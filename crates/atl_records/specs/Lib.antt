pub mod Amounts
pub mod Books
pub mod Events
pub mod Grids
pub mod Holdings
pub mod Levels
pub mod Limits
