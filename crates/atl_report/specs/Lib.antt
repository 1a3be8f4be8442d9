pub mod Gathering
pub mod Sight
pub mod Sites
pub mod Report
pub mod Books
