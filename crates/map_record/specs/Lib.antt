pub mod Mapping
pub mod MappingLaws
pub mod MappingHistory
pub mod MappingExamples
pub mod Kinds
pub mod KindsLaws
