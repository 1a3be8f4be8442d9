pub mod Dice
pub mod Bodies
pub mod Calls
pub mod Io
pub mod Patience
