pub mod SetsLaws
pub mod DecimalLaws
pub mod StrandLaws
