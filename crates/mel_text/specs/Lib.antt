pub mod StageTexts
