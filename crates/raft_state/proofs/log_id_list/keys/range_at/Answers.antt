use Rattle.std.proofs.Common.{◌≡◌, ◌-◌, ◌<◌, ◌≤◌, ◌⊎◌, inl, inr, ◌∙◌, sym, arith, get_or, length}
use Rattle.raft_base.specs.declared.log_id.LogIdOf.{LogIdOf}
use Rattle.raft_state.proofs.lemmas.log_id_list.FullLogLemmas.{key_list_rises_zero, last_counted, next_past, none_here, none_past, one_leader_from_key}
use Rattle.raft_state.proofs.lemmas.log_id_list.ExtendLemmas.{is_key_list}
use Rattle.raft_state.proofs.log_id_list.keys.range_at.Goals as goal
use Rattle.raft_state.proofs.log_id_list.keys.range_at.Goals.{then-covered-keys, else-covered-keys}

pub count_to-covered-requires : goal.count_to-covered-requires
count_to-covered-requires g c = key_list_rises_zero _ _ (is_key_list g.C.Ord.cmp c.args.keys.now c.requires)

pub returns-then-covered-eq0-clause-none : goal.returns-then-covered-eq0-clause-none
returns-then-covered-eq0-clause-none g c = none_here _ _ _ (is_key_list g.C.Ord.cmp c.args.keys.now c.requires)
    (sym c.count_to-covered.ensures.count ∙ c.if-covered-eq0.true)

pub overflow_sub-last : goal.overflow_sub-last
overflow_sub-last g c =
    let past = next_past g.C.Ord.cmp c.args.keys.now c.args.index c.count_to-covered.result
    c.index-keys-covered-then-covered-keys.result (is_key_list g.C.Ord.cmp c.args.keys.now c.requires)
    c.if-covered-keys.true c.count_to-covered.ensures.count in
    omega arith

pub returns-then-last-index-clause-none : goal.returns-then-last-index-clause-none
returns-then-last-index-clause-none g c =
    let keys = c.args.keys.now in
    let are = is_key_list g.C.Ord.cmp keys c.requires in
    let covered = c.count_to-covered.result in
    let key = c.index-keys-covered.result in
    let before = c.if-last-index.true in
    elim c.if-covered-keys.branch [
      | then-covered-keys w ↦ (
          let past = next_past g.C.Ord.cmp keys c.args.index covered w.index-keys-covered-then-covered-keys.result are
          w.if-covered-keys.true c.count_to-covered.ensures.count in
          let last = w.last-is in
          absurd (omega arith))
      | else-covered-keys w ↦ (
          let bound = c.count_to-covered.ensures.bound in
          let all : covered ≡ length keys = omega arith in
          let some = c.if-covered-eq0.false in
          let is : key ≡ get_or keys (length keys - 1) key = rw all at c.index-keys-covered.is in
          none_past _ _ _ key are (omega arith) (rw (← is, ← w.last-is) before))
    ]

pub returns-clause-within : goal.returns-clause-within
returns-clause-within g c = (
  last_counted g.C.Ord.cmp c.args.keys.now c.args.index c.count_to-covered.result c.index-keys-covered.result
      (is_key_list g.C.Ord.cmp c.args.keys.now c.requires) c.if-covered-eq0.false c.count_to-covered.ensures.bound
      c.count_to-covered.ensures.count c.index-keys-covered.is,
  c.if-last-index.false,
)

pub returns-clause-ids : goal.returns-clause-ids
returns-clause-ids g c n from to =
    let keys = c.args.keys.now in
    let covered = c.count_to-covered.result in
    let key = c.index-keys-covered.result in
    let last = c.if-covered-keys.last in
    let are = is_key_list g.C.Ord.cmp keys c.requires in
    let next : ((next : LogIdOf _) × (covered < length keys) × (last < (get_or keys covered next).index))
    ⊎ ((length keys ≤ covered) × (last ≡ key.index)) = elim c.if-covered-keys.branch [
      | then-covered-keys w ↦ (
          let after = w.index-keys-covered-then-covered-keys.result in
          let past = next_past g.C.Ord.cmp keys c.args.index covered after are w.if-covered-keys.true c.count_to-covered.ensures.count in
          let is = w.last-is in
          inl (after, w.if-covered-keys.true, omega arith))
      | else-covered-keys w ↦ inr (w.if-covered-keys.false, w.last-is)
    ] in
    one_leader_from_key g.C.Ord.cmp keys covered last n key are c.if-covered-eq0.false c.count_to-covered.ensures.bound
    c.index-keys-covered.is next from to
