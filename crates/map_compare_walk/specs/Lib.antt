pub mod Walk
pub mod Stretches
pub mod WalkLaws
pub mod StepLaws
pub mod TurnLaws
pub mod StretchesLaws
