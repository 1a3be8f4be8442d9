pub mod Walk
pub mod Sail
pub mod Study
pub mod StudyAlone
pub mod Bounds
