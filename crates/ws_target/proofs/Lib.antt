pub mod KeyLemmas
pub mod PlainLemmas
