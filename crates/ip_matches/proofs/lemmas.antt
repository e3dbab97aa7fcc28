pub mod Fields
pub mod FirstAddress
pub mod KeptLines
pub mod Reading
pub mod TextLines
pub mod Written
