pub mod Aliasing
pub mod Faulting
pub mod Verbs
pub mod Operands
pub mod Orders
pub mod Reading
pub mod Views
