pub mod NumeralLaws
pub mod ReadingLaws
pub mod HeldLaws
pub mod RefusalLaws
pub mod SessionLaws
pub mod TypedLaws
