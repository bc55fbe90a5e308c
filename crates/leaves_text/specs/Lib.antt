pub mod NumberText
pub mod NumberTextLaws
pub mod NumberTextMeaning
