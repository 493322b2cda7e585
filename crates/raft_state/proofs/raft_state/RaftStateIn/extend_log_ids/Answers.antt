use Rattle.std.proofs.Common.{map}
use Rattle.raft_state.proofs.lemmas.log.StateExtendLemmas.{extended_stays_valid}
use Rattle.raft_state.proofs.lemmas.log_id_list.ExtendLemmas.{is_key_list}
use Rattle.raft_state.proofs.lemmas.log_id_list.FrontLemmas.{from_first}
use Rattle.raft_state.proofs.lemmas.sound.LoggedMembers.{extend_members}
use Rattle.raft_state.proofs.lemmas.sound.SoundCalls.{extend_sound, members_of}
use Rattle.raft_state.specs.log_id_list.FullLog.{first_index, full_log}
use Rattle.raft_state.proofs.raft_state.RaftStateIn.extend_log_ids.Goals as goal

pub returns-clause-valid : goal.returns-clause-valid
returns-clause-valid g c valid zero =
    let s = c.args.self.now in
    extended_stays_valid g.C.Ord.cmp g.C.PartialEq.eq g.met.C.Ord.total g.met.C.Ord.matches_eq s
    (map g.LID.RaftLogId.id_of c.args.new_log_ids.now) c.extend.new.self s.membership_state
    c.in_ok-extend.ensures.ok c.in_ok-extend.ensures.last c.requires zero (λ members. members) valid

pub returns-clause-sound : goal.returns-clause-sound
returns-clause-sound g c sound zero =
    let s = c.args.self.now in
    let canonical = rw c.key_log_ids-keys.ensures.keys at c.key_log_ids-keys.ensures.canonical in
    let are = is_key_list g.C.Ord.cmp s.log_ids canonical in
    let row = from_first g.C.Ord.cmp s.log_ids are in
    let kept = c.in_ok-extend.ensures.kept in
    let members = extend_members g.C.PartialEq.eq g.C.Ord.cmp g.met.C.Eq.laws (first_index (full_log s.log_ids)) s.purged_next
    (full_log s.log_ids) (full_log c.extend.new.self) s.committed s.membership_state row kept
    (members_of g.C.Ord.cmp g.C.PartialEq.eq s sound) in
    let valid = extended_stays_valid g.C.Ord.cmp g.C.PartialEq.eq g.met.C.Ord.total g.met.C.Ord.matches_eq s
    (map g.LID.RaftLogId.id_of c.args.new_log_ids.now) c.extend.new.self s.membership_state
    c.in_ok-extend.ensures.ok c.in_ok-extend.ensures.last c.requires zero (λ members. members) sound.valid in
    extend_sound g.C.Ord.cmp g.C.PartialEq.eq g.met.C.Ord.total g.met.C.Ord.matches_eq g.met.C.Eq.laws s c.extend.new.self
    s.membership_state are kept c.in_ok-extend.ensures.monotone valid members sound
