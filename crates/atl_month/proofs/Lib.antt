pub mod CountLaws
pub mod MonthLaws
pub mod UnmailedEndLaws
pub mod PhaseLaws
pub mod MoveLaws
pub mod OneEventLaws
