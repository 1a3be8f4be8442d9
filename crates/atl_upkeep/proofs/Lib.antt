pub mod PassingLaws
pub mod ReceiverLaws
pub mod RestockLaws
pub mod SeasonLaws
pub mod SweepAllLaws
pub mod SweepLaws
pub mod UpkeepLaws
