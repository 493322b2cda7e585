use Rattle.std.proofs.Common.{Some, ◌∙◌, refl}
use Rattle.std.proofs.lemmas.Bool.{and_parts}
use Rattle.raft_state.proofs.lemmas.log_id_list.ExtendLemmas.{is_key_list}
use Rattle.raft_state.proofs.lemmas.InstallLemmas.{install_stays_valid, purge_fits}
use Rattle.raft_state.proofs.lemmas.sound.SoundInstall.{install_sound, installed_has, installs_no_lower, installs_own}
use Rattle.raft_state.proofs.raft_state.RaftStateIn.install_snapshot.Goals as goal

pub log_after_install-requires-after_bounds : goal.log_after_install-requires-after_bounds
log_after_install-requires-after_bounds g c lifetimes outlive =
    let s = c.args.self.now in
    let canonical = rw c.key_log_ids-keys.ensures.keys at c.key_log_ids-keys.ensures.canonical in
    let are = is_key_list g.C.Ord.cmp s.log_ids canonical in
    purge_fits g.C.Ord.cmp g.C.PartialEq.eq g.met.C.Ord.total g.met.C.Ord.matches_eq g.met.C.Eq.laws s c.in-Some.upto are

pub update_accepted-requires-clause-committed : goal.update_accepted-requires-clause-committed
update_accepted-requires-clause-committed g c lifetimes outlive =
    let may = rw c.in-Some.is at c.requires.may in
    (and_parts _ _ (and_parts _ _ (and_parts _ _ (and_parts _ _ may).0).0).1).0

pub update_accepted-requires-clause-no_lesser_leader : goal.update_accepted-requires-clause-no_lesser_leader
update_accepted-requires-clause-no_lesser_leader g c lifetimes outlive =
    let may = rw c.in-Some.is at c.requires.may in
    (and_parts _ _ (and_parts _ _ (and_parts _ _ (and_parts _ _ may).0).0).1).1

pub returns-clause-valid : goal.returns-clause-valid
returns-clause-valid g c valid =
    let s = c.args.self.now in
    let canonical = rw c.key_log_ids-keys.ensures.keys at c.key_log_ids-keys.ensures.canonical in
    let are = is_key_list g.C.Ord.cmp s.log_ids canonical in
    let may = rw c.in-Some.is at c.requires.may in
    let first = and_parts _ _ (and_parts _ _ (and_parts _ _ may).0).0 in
    let past = (and_parts _ _ first.0).1 in
    let upto = c.in-Some.upto in
    let members = c.in_ok-membership_state.membership_state in
    let copy = c.in_ok-copy.copy in
    install_stays_valid g.C.Ord.cmp g.C.PartialEq.eq g.met.C.Ord.total g.met.C.Ord.matches_eq g.met.C.Eq.laws s upto
    c.args.meta.last_membership c.in_ok-log_ids.log_ids members c.keep_upto.new.self
    (record { last_log_id = Some upto; last_membership = copy; snapshot_id = c.args.meta.snapshot_id }) are
    c.in_ok-log_ids.ensures c.in_ok-membership_state.ensures refl past (and_parts _ _ may).1 valid

pub returns-clause-sound : goal.returns-clause-sound
returns-clause-sound g c sound =
    let s = c.args.self.now in
    let canonical = rw c.key_log_ids-keys.ensures.keys at c.key_log_ids-keys.ensures.canonical in
    let are = is_key_list g.C.Ord.cmp s.log_ids canonical in
    let may = rw c.in-Some.is at c.requires.may in
    let first = and_parts _ _ (and_parts _ _ (and_parts _ _ may).0).0 in
    let past = (and_parts _ _ first.0).1 in
    let upto = c.in-Some.upto in
    let members = c.in_ok-membership_state.membership_state in
    let copy = c.in_ok-copy.copy in
    install_sound g.C.Ord.cmp g.C.PartialEq.eq g.met.C.Ord.total g.met.C.Ord.matches_eq g.met.C.Eq.laws c.update_accepted.new.self s
    upto c.args.meta.last_membership c.in_ok-log_ids.log_ids members c.update_accepted.new.self.accepted c.keep_upto.new.self
    (record { last_log_id = Some upto; last_membership = copy; snapshot_id = c.args.meta.snapshot_id }) are
    c.in_ok-log_ids.ensures c.in_ok-membership_state.ensures
    (rw (c.copied.ensures ∙ c.last.ensures) at c.keep_upto.ensures) refl past (and_parts _ _ may).1 sound

pub returns-clause-logged : goal.returns-clause-logged
returns-clause-logged g c =
    let s = c.args.self.now in
    let canonical = rw c.key_log_ids-keys.ensures.keys at c.key_log_ids-keys.ensures.canonical in
    let are = is_key_list g.C.Ord.cmp s.log_ids canonical in
    rw (c.in-Some.is, c.in_ok-log_ids.ensures) (installed_has g.C.Ord.cmp g.C.PartialEq.eq g.met.C.Ord.total g.met.C.Ord.matches_eq
    g.met.C.Eq.laws s c.in-Some.upto are)

pub returns-clause-own_membership : goal.returns-clause-own_membership
returns-clause-own_membership g c =
    let s = c.args.self.now in
    let may = rw c.in-Some.is at c.requires.may in
    let keeps = (and_parts _ _ (and_parts _ _ may).0).1 in
    rw c.in-Some.is (λ low. rw c.in_ok-membership_state.ensures (installs_own g.C.Ord.cmp g.C.PartialEq.eq g.met.C.Ord.total
    g.met.C.Ord.matches_eq g.met.C.Eq.laws s c.in-Some.upto c.args.meta.last_membership keeps low))

pub returns-clause-monotone : goal.returns-clause-monotone
returns-clause-monotone g c valid =
    let s = c.args.self.now in
    let may = rw c.in-Some.is at c.requires.may in
    let keeps = (and_parts _ _ (and_parts _ _ may).0).1 in
    rw c.in_ok-membership_state.ensures (installs_no_lower g.C.Ord.cmp g.C.PartialEq.eq g.met.C.Ord.total g.met.C.Ord.matches_eq
    g.met.C.Eq.laws s c.in-Some.upto c.args.meta.last_membership keeps valid)
