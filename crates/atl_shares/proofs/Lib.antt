pub mod ShareLaws
pub mod GroupedLaws
pub mod UpkeepSharingLaws
