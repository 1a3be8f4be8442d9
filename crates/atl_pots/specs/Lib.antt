pub mod Pots
pub mod Puts
pub mod WantGroups
pub mod ItemPots
