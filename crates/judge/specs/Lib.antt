pub mod StartTime
