pub mod Ordered
pub mod Index
pub mod Slots
pub mod SlotLending
