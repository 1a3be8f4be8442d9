pub mod Words
pub mod TextLines
pub mod Letters
pub mod Limits
pub mod Positions
pub mod WordViews
pub mod Header
pub mod MailFaults
