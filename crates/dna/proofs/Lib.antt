mod DnaLaws
mod MarkLaws
pub mod NumberLaws
mod PairLaws
mod ReadLaws
mod SpreadLaws
mod WriteLaws
