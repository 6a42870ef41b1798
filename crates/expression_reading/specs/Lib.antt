pub mod TextReading
