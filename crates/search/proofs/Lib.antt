pub mod Found
pub mod Order
