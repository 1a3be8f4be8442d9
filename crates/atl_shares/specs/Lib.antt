pub mod Share
pub mod InTurn
pub mod UpkeepSharing
pub mod Accounts
