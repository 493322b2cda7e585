use Rattle.std.proofs.Common.{◌≡◌, ◌∙◌, true≢false, ap, map, sym}
use Rattle.std.proofs.lemmas.Bool.{and_parts}
use Rattle.std.proofs.lemmas.Result.{on_ok_weaker}
use Rattle.raft_state.proofs.lemmas.AppendedLemmas.{appended_stay, begins_zero, last_effective, log_and_more, none_stored}
use Rattle.raft_state.proofs.lemmas.log.StateExtendLemmas.{extended_stays_valid}
use Rattle.raft_state.proofs.lemmas.log_id_list.ExtendLemmas.{is_key_list}
use Rattle.raft_state.proofs.lemmas.log_id_list.FrontLemmas.{from_first}
use Rattle.raft_state.proofs.lemmas.sound.LoggedMembers.{append_members, extend_members}
use Rattle.raft_state.proofs.lemmas.sound.SoundCalls.{committed_low, extend_sound, members_of}
use Rattle.raft_state.specs.log_id_list.FullLog.{first_index, full_log}
use Rattle.raft_state.specs.log_id_list.LogReads.{last_id}
use Rattle.raft_state.proofs.raft_state.RaftStateIn.append_entries.Goals as goal

pub returns-then-not-store_membership-clause-log : goal.returns-then-not-store_membership-clause-log
returns-then-not-store_membership-clause-log g c =
    let s = c.args.self.now in
    let ids = and_parts _ _ (and_parts _ _ c.requires.may).0 in
    let more = log_and_more (full_log s.log_ids) (map g.Ent.RaftLogId.id_of c.args.entries.now) ids.1 in
    on_ok_weaker c.extend_log_ids.result (λ same. rw more at same) c.extend_log_ids.ensures.log

pub returns-then-not-store_membership-clause-memberships : goal.returns-then-not-store_membership-clause-memberships
returns-then-not-store_membership-clause-memberships g c =
    let es = c.args.entries.now in
    let old = c.args.self.now.membership_state in
    let kept : c.extend_log_ids.new.self.membership_state ≡ old = ap (λ s. s.membership_state) c.extend_log_ids.ensures.rest in
    let none = none_stored g.NID.PartialEq.eq g.N.PartialEq.eq g.Ent.RaftLogId.id_of g.Ent.RaftPayload.membership es old
    (sym c.store_membership.ensures ∙ c.if-not-store_membership.true) in
    on_ok_weaker c.extend_log_ids.result (λ _. rw kept none) c.extend_log_ids.ensures.log

pub returns-then-not-store_membership-clause-no_membership : goal.returns-then-not-store_membership-clause-no_membership
returns-then-not-store_membership-clause-no_membership g c none = ap (λ s. s.membership_state) c.extend_log_ids.ensures.rest

pub returns-then-not-store_membership-clause-effective : goal.returns-then-not-store_membership-clause-effective
returns-then-not-store_membership-clause-effective g c =
    let es = c.args.entries.now in
    let old = c.args.self.now.membership_state in
    let kept : c.extend_log_ids.new.self.membership_state ≡ old = ap (λ s. s.membership_state) c.extend_log_ids.ensures.rest in
    let none = none_stored g.NID.PartialEq.eq g.N.PartialEq.eq g.Ent.RaftLogId.id_of g.Ent.RaftPayload.membership es old
    (sym c.store_membership.ensures ∙ c.if-not-store_membership.true) in
    let last = last_effective g.NID.PartialEq.eq g.N.PartialEq.eq g.Ent.RaftLogId.id_of g.Ent.RaftPayload.membership es old old none in
    on_ok_weaker c.extend_log_ids.result (λ _. rw kept last) c.extend_log_ids.ensures.log

pub returns-then-not-store_membership-clause-valid : goal.returns-then-not-store_membership-clause-valid
returns-then-not-store_membership-clause-valid g c valid =
    let s = c.args.self.now in
    let ids = and_parts _ _ (and_parts _ _ c.requires.may).0 in
    c.extend_log_ids.ensures.valid valid (begins_zero (full_log s.log_ids) (map g.Ent.RaftLogId.id_of c.args.entries.now) ids.1)

pub returns-then-not-store_membership-clause-sound : goal.returns-then-not-store_membership-clause-sound
returns-then-not-store_membership-clause-sound g c sound =
    let s = c.args.self.now in
    let ids = and_parts _ _ (and_parts _ _ c.requires.may).0 in
    c.extend_log_ids.ensures.sound sound (begins_zero (full_log s.log_ids) (map g.Ent.RaftLogId.id_of c.args.entries.now) ids.1)

pub returns-clause-log : goal.returns-clause-log
returns-clause-log g c =
    let s = c.args.self.now in
    let ids = and_parts _ _ (and_parts _ _ c.requires.may).0 in
    rw (log_and_more (full_log s.log_ids) (map g.Ent.RaftLogId.id_of c.args.entries.now) ids.1) at c.in_ok-extend.ensures.ok

pub returns-clause-no_membership : goal.returns-clause-no_membership
returns-clause-no_membership g c none =
    absurd (true≢false (sym c.if-not-store_membership.false ∙ c.store_membership.ensures ∙ none))

pub returns-clause-effective : goal.returns-clause-effective
returns-clause-effective g c =
    last_effective g.NID.PartialEq.eq g.N.PartialEq.eq g.Ent.RaftLogId.id_of g.Ent.RaftPayload.membership c.args.entries.now
    c.args.self.now.membership_state c.in_ok-membership_state.membership_state c.in_ok-membership_state.ensures

pub returns-clause-valid : goal.returns-clause-valid
returns-clause-valid g c valid =
    let s = c.args.self.now in
    let es = c.args.entries.now in
    let may = and_parts _ _ c.requires.may in
    let ids = and_parts _ _ may.0 in
    extended_stays_valid g.C.Ord.cmp g.C.PartialEq.eq g.met.C.Ord.total g.met.C.Ord.matches_eq s (map g.Ent.RaftLogId.id_of es)
    c.extend.new.self c.in_ok-membership_state.membership_state
    c.in_ok-extend.ensures.ok c.in_ok-extend.ensures.last ids.0 (begins_zero (full_log s.log_ids) (map g.Ent.RaftLogId.id_of es) ids.1)
    (λ old. appended_stay g.C.Ord.cmp g.NID.PartialEq.eq g.N.PartialEq.eq g.Ent.RaftLogId.id_of g.Ent.RaftPayload.membership es
    s.membership_state c.in_ok-membership_state.membership_state
    may.1 c.in_ok-membership_state.ensures old) valid

pub returns-clause-sound : goal.returns-clause-sound
returns-clause-sound g c sound =
    let s = c.args.self.now in
    let es = c.args.entries.now in
    let may = and_parts _ _ c.requires.may in
    let ids = and_parts _ _ may.0 in
    let canonical = rw c.key_log_ids-keys.ensures.keys at c.key_log_ids-keys.ensures.canonical in
    let are = is_key_list g.C.Ord.cmp s.log_ids canonical in
    let row = from_first g.C.Ord.cmp s.log_ids are in
    let kept = c.in_ok-extend.ensures.kept in
    let before = extend_members g.C.PartialEq.eq g.C.Ord.cmp g.met.C.Eq.laws (first_index (full_log s.log_ids)) s.purged_next
    (full_log s.log_ids) (full_log c.extend.new.self) s.committed s.membership_state row kept
    (members_of g.C.Ord.cmp g.C.PartialEq.eq s sound) in
    let members = append_members g.C.PartialEq.eq g.C.Ord.cmp g.met.C.Eq.laws g.met.C.Ord.total g.NID.PartialEq.eq g.N.PartialEq.eq
    g.Ent.RaftLogId.id_of g.Ent.RaftPayload.membership s.purged_next (full_log c.extend.new.self) s.committed
    (last_id (full_log s.log_ids)) es s.membership_state c.in_ok-membership_state.membership_state
    (committed_low g.C.Ord.cmp s sound.valid) ids.0 c.in_ok-extend.ensures.own c.in_ok-membership_state.ensures before in
    let valid = extended_stays_valid g.C.Ord.cmp g.C.PartialEq.eq g.met.C.Ord.total g.met.C.Ord.matches_eq s
    (map g.Ent.RaftLogId.id_of es) c.extend.new.self c.in_ok-membership_state.membership_state
    c.in_ok-extend.ensures.ok c.in_ok-extend.ensures.last ids.0 (begins_zero (full_log s.log_ids) (map g.Ent.RaftLogId.id_of es) ids.1)
    (λ old. appended_stay g.C.Ord.cmp g.NID.PartialEq.eq g.N.PartialEq.eq g.Ent.RaftLogId.id_of g.Ent.RaftPayload.membership es
    s.membership_state c.in_ok-membership_state.membership_state
    may.1 c.in_ok-membership_state.ensures old) sound.valid in
    extend_sound g.C.Ord.cmp g.C.PartialEq.eq g.met.C.Ord.total g.met.C.Ord.matches_eq g.met.C.Eq.laws s c.extend.new.self
    c.in_ok-membership_state.membership_state are kept c.in_ok-extend.ensures.monotone valid members sound
