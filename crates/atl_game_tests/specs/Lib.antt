pub mod Phases
pub mod Places
