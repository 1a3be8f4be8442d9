pub mod Sets
pub mod Tables
pub mod Statements
pub mod PartSelects
pub mod Described
