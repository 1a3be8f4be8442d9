pub mod Mailing
pub mod Rules
pub mod Bounds
pub mod Views
