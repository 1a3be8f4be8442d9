pub mod AccountLaws
pub mod BookLaws
pub mod EveryEntryLaws
pub mod GridLaws
pub mod HoldingLaws
pub mod LevelLaws
pub mod AmountListLaws
pub mod RemovedLaws
