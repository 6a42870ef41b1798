pub mod Grammar
pub mod Occurrences
pub mod Reader
pub mod Numbers
pub mod TextRules
pub mod Check
