use Rattle.std.proofs.Common.{◌∙◌, sym}
use Rattle.raft_state.proofs.lemmas.log_id_list.ExtendLemmas.{is_key_list}
use Rattle.raft_state.proofs.lemmas.sound.LoggedIds.{is_logged}
use Rattle.raft_state.proofs.lemmas.sound.SoundCalls.{commit_sound}
use Rattle.raft_state.proofs.lemmas.log.CommitLemmas.{stays_valid}
use Rattle.raft_state.proofs.raft_state.RaftStateIn.update_committed.Goals as goal

pub returns-clause-valid : goal.returns-clause-valid
returns-clause-valid g c valid in_log =
    stays_valid g.met.C.Ord.total c.args.committed.now c.args.self.now c.commit.new.self
    c.in_ok-commit.ensures.ok (sym c.log_id_below.ensures ∙ c.if-not-log_id_below.false) valid in_log

pub returns-clause-sound : goal.returns-clause-sound
returns-clause-sound g c sound logged =
    let s = c.args.self.now in
    let canonical = rw c.key_log_ids-keys.ensures.keys at c.key_log_ids-keys.ensures.canonical in
    let are = is_key_list g.C.Ord.cmp s.log_ids canonical in
    commit_sound g.C.Ord.cmp g.C.PartialEq.eq g.met.C.Ord.total g.met.C.Ord.matches_eq g.met.C.Eq.laws s c.args.committed.now
    c.commit.new.self are
    c.in_ok-commit.ensures.ok (sym c.log_id_below.ensures ∙ c.if-not-log_id_below.false)
    (sym (is_logged g.C.PartialEq.eq s c.args.committed.now) ∙ logged) sound
