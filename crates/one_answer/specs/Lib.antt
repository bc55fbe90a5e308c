pub mod Leaves
pub mod Maps
pub mod Explanations
pub mod Metadata
pub mod Builds
pub mod Held
pub mod Plain
pub mod Feeds
