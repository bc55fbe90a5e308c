pub mod Answers
pub mod AnswersLaws
pub mod Header
pub mod HeaderLaws
pub mod Handing
pub mod HandingLaws
