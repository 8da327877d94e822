pub mod BitLaws
pub mod NumberLaws
pub mod CrcLaws
pub mod ByteTable
