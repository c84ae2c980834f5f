pub mod TapeLine
pub mod TapeReading
