pub mod FrontLaws
pub mod HeadLaws
pub mod JsonLaws
pub mod DigitLaws
pub mod RouteLaws
