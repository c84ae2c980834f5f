pub mod CutText
pub mod FaultText
pub mod Quoted
