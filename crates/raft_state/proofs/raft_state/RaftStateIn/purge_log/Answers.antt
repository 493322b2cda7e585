use Rattle.std.proofs.Common.{◌+◌, ◌<◌, ◌^◌, rules}
use Rattle.raft_state.proofs.lemmas.log_id_list.ExtendLemmas.{is_key_list}
use Rattle.raft_state.proofs.lemmas.log_id_list.FrontLemmas.{from_first}
use Rattle.raft_state.proofs.lemmas.log.StatePurgeLemmas.{both_below, purge_stays_valid}
use Rattle.raft_state.proofs.lemmas.sound.SoundCalls.{purge_sound}
use Rattle.raft_state.proofs.raft_state.RaftStateIn.purge_log.Goals as goal

pub overflow_add-self : goal.overflow_add-self
overflow_add-self g c = let small : c.args.upto.now.index + 1 < 2 ^ 64 = both_below _ (c.args.upto.now.index + 1) (2 ^ 64) c.requires in
    search rules

pub returns-clause-valid : goal.returns-clause-valid
returns-clause-valid g c valid low =
    let s = c.args.self.now in
    let canonical = rw c.key_log_ids-keys.ensures.keys at c.key_log_ids-keys.ensures.canonical in
    let row = from_first g.C.Ord.cmp s.log_ids (is_key_list g.C.Ord.cmp s.log_ids canonical) in
    purge_stays_valid g.met.C.Ord.total s c.args.upto.now c.purge.new.self row c.in_ok-purge.ensures.ok c.requires valid low

pub returns-clause-sound : goal.returns-clause-sound
returns-clause-sound g c sound low =
    let s = c.args.self.now in
    let canonical = rw c.key_log_ids-keys.ensures.keys at c.key_log_ids-keys.ensures.canonical in
    let are = is_key_list g.C.Ord.cmp s.log_ids canonical in
    purge_sound g.C.Ord.cmp g.C.PartialEq.eq g.met.C.Ord.total g.met.C.Ord.matches_eq g.met.C.Eq.laws s c.args.upto.now c.purge.new.self are
    c.in_ok-purge.ensures.ok c.requires low sound
