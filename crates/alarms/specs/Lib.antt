pub mod Alarms
