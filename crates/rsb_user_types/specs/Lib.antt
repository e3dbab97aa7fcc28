pub mod Weekends
