pub mod Replay
pub mod ReplayLaws
pub mod Telling
pub mod ReplayCalls
pub mod OtherLines
pub mod OtherLinesLaws
pub mod Examples
