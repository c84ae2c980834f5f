pub mod Cause
pub mod Forms
pub mod Layers
pub mod Reading
pub mod Told
