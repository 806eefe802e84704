pub mod Text
pub mod Batch
pub mod Reading
pub mod NumberLaws
pub mod FieldLaws
pub mod KindLaws
