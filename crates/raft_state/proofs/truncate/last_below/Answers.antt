use Rattle.std.proofs.Common.{sym, ◌∙◌, ◌≡◌, true, false, Some}
use Rattle.raft_base.specs.LogIndex.{index_lt}
use Rattle.raft_state.proofs.lemmas.log_id_list.ExtendLemmas.{is_key_list}
use Rattle.raft_state.proofs.lemmas.log_id_list.FrontLemmas.{all_stay, from_first, none_stay, some_stay}
use Rattle.raft_state.specs.log_id_list.FullLog.{first_index, full_log}
use Rattle.raft_state.proofs.truncate.last_below.Goals as goal

pub returns-then-index_below : goal.returns-then-index_below
returns-then-index_below g c =
    let ks = c.args.log_ids.now in
    let canonical = rw c.key_log_ids-keys.ensures.keys at c.key_log_ids-keys.ensures.canonical in
    let row = from_first g.C.Ord.cmp ks (is_key_list g.C.Ord.cmp ks canonical) in
    let last = c.copied-last.ensures ∙ c.last.ensures in
    let test : index_lt c.index.result (Some c.args.index) ≡ true = sym c.index_below.ensures ∙ c.if-index_below.true in
    let below = rw (c.index.ensures, last) at test in
    last ∙ all_stay (first_index (full_log ks)) c.args.index (full_log ks) row below

pub returns-then-index-eq0 : goal.returns-then-index-eq0
returns-then-index-eq0 g c = none_stay c.args.index (full_log c.args.log_ids.now) c.if-index-eq0.true

pub returns-else-index-eq0 : goal.returns-else-index-eq0
returns-else-index-eq0 g c =
    let ks = c.args.log_ids.now in
    let canonical = rw c.key_log_ids-keys.ensures.keys at c.key_log_ids-keys.ensures.canonical in
    let row = from_first g.C.Ord.cmp ks (is_key_list g.C.Ord.cmp ks canonical) in
    let last = c.copied-last.ensures ∙ c.last.ensures in
    let test : index_lt c.index.result (Some c.args.index) ≡ false = sym c.index_below.ensures ∙ c.if-index_below.false in
    let below = rw (c.index.ensures, last) at test in
    c.get.ensures.id ∙ some_stay (first_index (full_log ks)) c.args.index (full_log ks) row below c.if-index-eq0.false
