pub mod SightLaws
pub mod SiteLaws
pub mod EventLaws
pub mod ExitLaws
pub mod HidingLaws
