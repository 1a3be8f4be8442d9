pub mod Answered
pub mod Serving
pub mod Listening
