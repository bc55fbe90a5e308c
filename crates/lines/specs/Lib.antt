pub mod Parts
pub mod Sections
pub mod SectionsLaws
pub mod Lines
pub mod LinesLaws
pub mod Asked
