use Rattle.std.proofs.Common.{map}
use Rattle.std.proofs.lemmas.Bool.{and_parts}
use Rattle.raft_state.specs.log_id_list.FullLog.{first_index, full_log}
use Rattle.raft_state.specs.log_id_list.LogReads.{last_id}
use Rattle.raft_state.specs.log_id_list.LogConditions.{all_follow, ends_share_leader}
use Rattle.raft_state.proofs.lemmas.log_id_list.CutLemmas.{last_full}
use Rattle.raft_state.proofs.lemmas.log_id_list.ListLemmas.{extend_ends, extend_fills, extend_keeps}
use Rattle.raft_state.proofs.lemmas.log_id_list.ExtendLemmas.{extend_raises, is_key_list}
use Rattle.raft_state.proofs.lemmas.log_id_list.FrontLemmas.{from_first}
use Rattle.raft_state.proofs.lemmas.log_id_list.KeptLemmas.{ends_there, extend_has_ids, extend_keeps_ids}
use Rattle.raft_state.specs.Inner.KeyEdits.{keys_after_extend}
use Rattle.raft_state.proofs.log_id_list.LogIdListOf.extend_from_same_leader.Goals as goal

pub extend_by_ends-requires-clause-follow : goal.extend_by_ends-requires-clause-follow
extend_by_ends-requires-clause-follow g c =
    let ids = (map g.LID.RaftLogId.id_of c.args.new_ids.now) in
    let can = rw (← c.self.view_is) at c.requires in
    let follow = (and_parts (all_follow g.C.Ord.cmp (last_id (full_log c.self.inside.key_log_ids.items)) ids)
    (ends_share_leader g.C.PartialEq.eq ids) can).0 in
    rw (last_full g.C.Ord.cmp c.self.inside.key_log_ids.items (is_key_list g.C.Ord.cmp c.self.inside.key_log_ids.items c.self.invariant)) at
    follow

pub extend_by_ends-requires-clause-one_leader : goal.extend_by_ends-requires-clause-one_leader
extend_by_ends-requires-clause-one_leader g c =
    let ids = (map g.LID.RaftLogId.id_of c.args.new_ids.now) in
    (and_parts (all_follow g.C.Ord.cmp (last_id (full_log c.args.self.now)) ids) (ends_share_leader g.C.PartialEq.eq ids) c.requires).1

pub invariant_of-self-2 : goal.invariant_of-self-2
invariant_of-self-2 g c =
    let ids = (map g.LID.RaftLogId.id_of c.args.new_ids.now) in
    let can = rw (← c.self.view_is) at c.requires in
    let follow = (and_parts (all_follow g.C.Ord.cmp (last_id (full_log c.self.inside.key_log_ids.items)) ids)
    (ends_share_leader g.C.PartialEq.eq ids) can).0 in
    rw c.in_ok-extend_by_ends.ensures.ok (extend_keeps g.C.Ord.cmp g.C.PartialEq.eq g.met.C.Ord.total g.met.C.Ord.matches_eq g.met.C.Eq.laws
    c.self.inside.key_log_ids.items ids (is_key_list g.C.Ord.cmp c.self.inside.key_log_ids.items c.self.invariant) follow)

pub returns-clause-ok : goal.returns-clause-ok
returns-clause-ok g c =
    let ids = (map g.LID.RaftLogId.id_of c.args.new_ids.now) in
    let can = rw (← c.self.view_is) at c.requires in
    let follow = (and_parts (all_follow g.C.Ord.cmp (last_id (full_log c.self.inside.key_log_ids.items)) ids)
    (ends_share_leader g.C.PartialEq.eq ids) can).0 in
    rw (c.in_ok-extend_by_ends.ensures.ok, ← c.self.view_is)
    (extend_fills g.C.Ord.cmp g.C.PartialEq.eq g.met.C.Ord.total g.met.C.Ord.matches_eq g.met.C.Eq.laws c.self.inside.key_log_ids.items
    ids (is_key_list g.C.Ord.cmp c.self.inside.key_log_ids.items c.self.invariant) follow)

pub returns-clause-last : goal.returns-clause-last
returns-clause-last g c =
    let ids = (map g.LID.RaftLogId.id_of c.args.new_ids.now) in
    let can = rw (← c.self.view_is) at c.requires in
    let follow = (and_parts (all_follow g.C.Ord.cmp (last_id (full_log c.self.inside.key_log_ids.items)) ids)
    (ends_share_leader g.C.PartialEq.eq ids) can).0 in
    rw (c.in_ok-extend_by_ends.ensures.ok, ← c.self.view_is)
    (extend_ends g.C.Ord.cmp g.C.PartialEq.eq g.met.C.Ord.total g.met.C.Ord.matches_eq g.met.C.Eq.laws c.self.inside.key_log_ids.items
    ids (is_key_list g.C.Ord.cmp c.self.inside.key_log_ids.items c.self.invariant) follow)

pub returns-clause-monotone : goal.returns-clause-monotone
returns-clause-monotone g c =
    let keys = c.self.inside.key_log_ids.items in
    let ids = (map g.LID.RaftLogId.id_of c.args.new_ids.now) in
    let are = is_key_list g.C.Ord.cmp keys c.self.invariant in
    let can = rw (← c.self.view_is) at c.requires in
    let follow = (and_parts (all_follow g.C.Ord.cmp (last_id (full_log keys)) ids) (ends_share_leader g.C.PartialEq.eq ids) can).0 in
    rw (
      c.in_ok-extend_by_ends.ensures.ok,
      ← c.self.view_is,
      extend_ends g.C.Ord.cmp g.C.PartialEq.eq g.met.C.Ord.total
          g.met.C.Ord.matches_eq g.met.C.Eq.laws keys ids are follow,
    )
    (extend_raises g.met.C.Ord.total (last_id (full_log keys)) ids follow)

pub returns-clause-kept : goal.returns-clause-kept
returns-clause-kept g c =
    let keys = c.self.inside.key_log_ids.items in
    let ids = (map g.LID.RaftLogId.id_of c.args.new_ids.now) in
    let are = is_key_list g.C.Ord.cmp keys c.self.invariant in
    let can = rw (← c.self.view_is) at c.requires in
    let follow = (and_parts (all_follow g.C.Ord.cmp (last_id (full_log keys)) ids) (ends_share_leader g.C.PartialEq.eq ids) can).0 in
    let new = extend_fills g.C.Ord.cmp g.C.PartialEq.eq g.met.C.Ord.total g.met.C.Ord.matches_eq g.met.C.Eq.laws keys ids are follow in
    rw (c.in_ok-extend_by_ends.ensures.ok, ← c.self.view_is)
    (extend_keeps_ids g.C.Ord.cmp g.C.PartialEq.eq (full_log keys) (full_log (keys_after_extend g.C.PartialEq.eq keys ids)) ids new
    follow)

pub returns-clause-own : goal.returns-clause-own
returns-clause-own g c =
    let keys = c.self.inside.key_log_ids.items in
    let ids = (map g.LID.RaftLogId.id_of c.args.new_ids.now) in
    let are = is_key_list g.C.Ord.cmp keys c.self.invariant in
    let can = rw (← c.self.view_is) at c.requires in
    let follow = (and_parts (all_follow g.C.Ord.cmp (last_id (full_log keys)) ids) (ends_share_leader g.C.PartialEq.eq ids) can).0 in
    let new = extend_fills g.C.Ord.cmp g.C.PartialEq.eq g.met.C.Ord.total g.met.C.Ord.matches_eq g.met.C.Eq.laws keys ids are follow in
    let ends = ends_there (first_index (full_log keys)) (full_log keys) (from_first g.C.Ord.cmp keys are) in
    rw c.in_ok-extend_by_ends.ensures.ok (extend_has_ids g.C.Ord.cmp g.C.PartialEq.eq (full_log keys)
    (full_log (keys_after_extend g.C.PartialEq.eq keys ids)) ids new follow ends)
