pub mod EffectLemmas
pub mod RefusalLemmas
