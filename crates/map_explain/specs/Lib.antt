pub mod Reason
pub mod ReasonLaws
pub mod Explain
pub mod ExplainLaws
pub mod Calls
pub mod Examples
