pub mod CallerLemmas
pub mod lemmas
