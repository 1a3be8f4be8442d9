pub mod FieldLaws
pub mod Fields
pub mod FormLaws
pub mod Forms
