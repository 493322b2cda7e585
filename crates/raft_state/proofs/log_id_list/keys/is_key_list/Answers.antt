use Rattle.std.proofs.Common.{◌-◌, ◌∙◌, sym, arith}
use Rattle.raft_state.proofs.lemmas.log_id_list.ExtendLemmas.{short_list}
use Rattle.raft_state.proofs.log_id_list.keys.is_key_list.Goals as goal

pub returns : goal.returns
returns g c = sym (sym c.loop-place.invariant ∙ short_list g.C.Ord.cmp c.args.keys.now (c.loop-place.place - 1) (omega arith))
