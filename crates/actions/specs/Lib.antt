pub mod ActionRows
