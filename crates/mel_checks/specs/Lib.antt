pub mod CheckTexts
