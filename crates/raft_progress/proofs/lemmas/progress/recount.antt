pub mod CountedAfreshLemmas
pub mod CountedValueLemmas
pub mod RecountLemmas
