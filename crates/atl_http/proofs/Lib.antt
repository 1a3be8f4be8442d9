pub mod ListeningLaws
pub mod ServingLaws
