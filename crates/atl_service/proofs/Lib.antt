pub mod FoundServiceLaws
pub mod OpenLaws
pub mod UpgradeLaws
pub mod FileLaws
