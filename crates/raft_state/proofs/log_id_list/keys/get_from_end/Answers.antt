use Rattle.std.proofs.Common.{◌≡◌, ◌-◌, ◌<◌, inl, inr, ◌∙◌, sym, arith, ap, get_or, length}
use Rattle.raft_state.specs.log_id_list.FullLog.{full_log}
use Rattle.raft_state.specs.log_id_list.LogReads.{id_at}
use Rattle.raft_state.proofs.lemmas.log_id_list.FullLogLemmas.{none_past, one_leader_from_key}
use Rattle.raft_state.proofs.lemmas.log_id_list.ExtendLemmas.{is_key_list}
use Rattle.raft_state.proofs.log_id_list.keys.get_from_end.Goals as goal

pub returns-then-last-index : goal.returns-then-last-index
returns-then-last-index g c =
    let keys = c.args.keys.now in
    sym (none_past g.C.Ord.cmp keys c.args.index c.index-keys-count-2.result (is_key_list g.C.Ord.cmp keys c.requires) (omega arith)
    (rw (← c.index-keys-count-2.is) c.if-last-index.true))

pub returns-then-last-index-2 : goal.returns-then-last-index-2
returns-then-last-index-2 g c =
    let keys = c.args.keys.now in
    let last = c.index-keys-count-2.result in
    let here : last.index ≡ c.args.index = c.if-last-index-2.true in
    sym (ap (id_at (full_log keys)) (sym here) ∙ one_leader_from_key g.C.Ord.cmp keys (length keys) last.index last.index last
    (is_key_list g.C.Ord.cmp keys c.requires) (λ none. omega arith) (omega arith) c.index-keys-count-2.is (inr (omega arith, omega arith))
    (omega arith) (omega arith))

pub returns : goal.returns
returns g c =
    let keys = c.args.keys.now in
    let before = c.index-keys-count.result in
    let last = c.index-keys-count-2.result in
    let not_below = c.if-last-index.false in
    let apart = c.if-last-index-2.false in
    let next : c.args.index < (get_or keys (length keys - 1) last).index = rw (← c.index-keys-count-2.is) (omega arith) in
    let two : length keys - 2 ≡ length keys - 1 - 1 = omega arith in
    let place : before ≡ get_or keys (length keys - 1 - 1) before = rw two at c.index-keys-count.is in
    rw c.new.ensures (sym (one_leader_from_key g.C.Ord.cmp keys (length keys - 1) c.args.index c.args.index before
    (is_key_list g.C.Ord.cmp keys c.requires) (λ none. omega arith) (omega arith) place
    (inl (last, omega arith, next)) c.if-index-before.false (omega arith)))
