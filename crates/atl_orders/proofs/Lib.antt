pub mod RuleLaws
pub mod TextLaws
pub mod OperandLaws
pub mod BoundLaws
pub mod SenderLaws
