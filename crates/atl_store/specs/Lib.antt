pub mod Faults
pub mod Loading
pub mod Gathering
pub mod Reopening
pub mod OneCampaign
pub mod OneWorld
pub mod Upgrading
