pub mod AlikeLaws
pub mod GoodLaws
pub mod StuffLaws
pub mod LineLaws
pub mod FieldLaws
pub mod MakerLaws
pub mod EntryLaws
