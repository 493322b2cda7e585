use Rattle.std.proofs.Common.{◌∙◌}
use Rattle.raft_state.proofs.lemmas.log_id_list.ExtendLemmas.{is_key_list}
use Rattle.raft_state.proofs.lemmas.log_id_list.FrontLemmas.{from_first}
use Rattle.raft_state.proofs.lemmas.TruncateLemmas.{cut_stays_valid}
use Rattle.raft_state.specs.log_id_list.FullLog.{first_index, full_log}
use Rattle.raft_state.proofs.lemmas.sound.SoundCalls.{cut_sound}
use Rattle.raft_state.proofs.raft_state.RaftStateIn.truncate_log.Goals as goal

pub returns-clause-valid : goal.returns-clause-valid
returns-clause-valid g c valid =
    let s = c.args.self.now in
    let canonical = rw c.key_log_ids-keys.ensures.keys at c.key_log_ids-keys.ensures.canonical in
    let row = from_first g.C.Ord.cmp s.log_ids (is_key_list g.C.Ord.cmp s.log_ids canonical) in
    cut_stays_valid g.met.C.Ord.total s c.args.since (first_index (full_log s.log_ids)) c.truncate.new.self c.revert.new.self row
    c.truncate.ensures.log c.in_ok-reverted.ensures.ok c.requires valid

pub returns-clause-sound : goal.returns-clause-sound
returns-clause-sound g c sound =
    let s = c.args.self.now in
    let canonical = rw c.key_log_ids-keys.ensures.keys at c.key_log_ids-keys.ensures.canonical in
    let are = is_key_list g.C.Ord.cmp s.log_ids canonical in
    cut_sound g.C.Ord.cmp g.C.PartialEq.eq g.met.C.Ord.total g.met.C.Ord.matches_eq g.met.C.Eq.laws s c.args.since c.truncate.new.self
    c.revert.new.self c.keep_upto.new.self are
    c.truncate.ensures.log c.in_ok-reverted.ensures.ok (rw (c.copied.ensures ∙ c.last.ensures) at c.keep_upto.ensures) c.requires sound
