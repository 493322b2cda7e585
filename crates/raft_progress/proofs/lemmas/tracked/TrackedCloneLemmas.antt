-- A clone of a tracked progress is ready.
use Rattle.std.specs.Prelude.{◌≡◌, Bool, true, false, ◌&&◌, ◌||◌, cond, List, [], ◌∷◌, Some, is_some, map}
use Rattle.std.specs.Cmp.{IsEquivalence, first_so, second_so}
use Rattle.std.specs.Ordering.{eq_by_cmp}
use Rattle.std.specs.declared.cmp.Ordering.{Ordering}
use Rattle.std.specs.BTreeMap.{is_at}
use Rattle.std.specs.List.{AllZip, list_all}
use Rattle.std.specs.Map.{lookup}
use Rattle.std.proofs.Common.{ap, refl, sym, ◌∙◌, true≢false}
use Rattle.raft_members.specs.quorum.Majority.{is_majority, is_voter_of}
use Rattle.raft_members.specs.membership.Members.{node_at, same_members, same_nodes}
use Rattle.raft_progress.specs.progress.Equal.{IsCloned}
use Rattle.raft_progress.specs.progress.ProgressView.{ProgressView}
use Rattle.raft_progress.specs.tracked.TrackedState.{Configs, HasSameConfigs, IsReady, TrackedView, has_quorum}
use Rattle.raft_progress.proofs.lemmas.progress.KeptLemmas.{order_alike, voters_alike}
use Rattle.raft_progress.proofs.lemmas.progress.CloneLemmas.{same_ids, same_parts}
use Rattle.std.proofs.lemmas.List.Folds.{list_all-map}

module _ {ID V : Type 0} (IsClone : V → V → Type 0) where
  zip_there : (test : ID → Bool) (es fs : List (ID × V)) → AllZip (λ d e. (e.0 ≡ d.0) × IsClone d.1 e.1) es fs
      → is_some (lookup test fs) ≡ is_some (lookup test es)
  zip_there test [] [] a = refl
  zip_there test [] (f ∷ fs) a = absurd a
  zip_there test (e ∷ es) [] a = absurd a
  zip_there test (e ∷ es) (f ∷ fs) a = ap (λ k. is_some (cond (test k) (Some f.1) (lookup test fs))) a.0.0
      ∙ by (test e.0) (zip_there test es fs a.1)
    where
      by : (b : Bool) → is_some (lookup test fs) ≡ is_some (lookup test es)
          → is_some (cond b (Some f.1) (lookup test fs)) ≡ is_some (cond b (Some e.1) (lookup test es))
      by true r = refl
      by false r = r

-- a clone of a progress in order is in order
-- equal nodes are at the same ids
nodes_there : {K N : Type 0} {eq : K → K → Bool} (laws : IsEquivalence eq) (id_cmp : K → K → Ordering)
    → ((x y : K) → eq x y ≡ eq_by_cmp id_cmp x y) → (same : N → N → Bool) (xs ys : List (K × N)) → same_nodes eq same xs ys ≡ true
    → (id : K) → is_some (node_at id_cmp ys id) ≡ is_some (node_at id_cmp xs id)
nodes_there laws id_cmp ties same [] [] h id = refl
nodes_there laws id_cmp ties same [] (y ∷ ys) h id = absurd (true≢false (sym h))
nodes_there laws id_cmp ties same (x ∷ xs) [] h id = absurd (true≢false (sym h))
nodes_there {K} {N} {eq} laws id_cmp ties same (x ∷ xs) (y ∷ ys) h id =
    let pair : (eq x.0 y.0 && same x.1 y.1) ≡ true = first_so _ _ h in
    let rest : same_nodes eq same xs ys ≡ true = second_so (eq x.0 y.0 && same x.1 y.1) _ h in
    let keys : is_at (id_cmp id) y.0 ≡ is_at (id_cmp id) x.0 =
    sym (ties id y.0) ∙ laws.symm id y.0 ∙ sym (laws.congr x.0 y.0 id (first_so _ _ pair)) ∙ laws.symm x.0 id ∙ ties id x.0 in
    ap (λ b. is_some (cond b (Some y.1) (lookup (is_at (id_cmp id)) ys))) keys
    ∙ by (is_at (id_cmp id) x.0) (nodes_there laws id_cmp ties same xs ys rest id)
  where
    by : (b : Bool) → is_some (node_at id_cmp ys id) ≡ is_some (node_at id_cmp xs id)
        → is_some (cond b (Some y.1) (lookup (is_at (id_cmp id)) ys)) ≡ is_some (cond b (Some x.1) (lookup (is_at (id_cmp id)) xs))
    by true r = refl
    by false r = r

-- a clone over a quorum set of the same configs
pub same_configs : {K V P : Type 0} (old new : ProgressView K V P (Configs K)) (configs : Configs K) (IsClone : V → V → Type 0)
    → IsCloned IsClone (λ a b. b ≡ configs) old new → HasSameConfigs old.quorum_set configs → IsCloned IsClone HasSameConfigs old new
same_configs {K} old new configs IsClone c same = record {
  quorum_set = ap (λ (q : Configs K). map (λ x. x.items) q.items) c.quorum_set ∙ same;
  entries = c.entries;
  voter_count = c.voter_count;
  default_part = c.default_part;
  granted = c.granted;
  stat = c.stat;
}

-- and it is ready
pub ready_cloned : {K N V P : Type 0} {eq : K → K → Bool} (laws : IsEquivalence eq) (id_cmp : K → K → Ordering)
    → ((x y : K) → eq x y ≡ eq_by_cmp id_cmp x y) → (same : N → N → Bool) (cmp : P → P → Ordering) (part : V → P) (IsClone : V → V → Type 0)
    → ((v w : V) → IsClone v w → part w ≡ part v) → (old new : TrackedView K N V P) → new.membership.configs ≡ old.membership.configs
    → same_members eq same old.membership new.membership ≡ true → IsCloned IsClone HasSameConfigs old.progress new.progress
    → IsReady eq id_cmp cmp part old → IsReady eq id_cmp cmp part new
ready_cloned {K} {N} {V} {P} {eq} laws id_cmp ties same cmp part IsClone clones old new configs nodes c r =
    let ids = same_ids IsClone old.progress.entries new.progress.entries c.entries in
    let parts = same_parts IsClone part clones old.progress.voter_count old.progress.entries new.progress.entries c.entries in
    let quorums : (set : K → Bool) → has_quorum eq new.progress.quorum_set set ≡ has_quorum eq old.progress.quorum_set set = λ set.
    sym (list_all-map (λ ks. is_majority eq ks set) (λ q. q.items) new.progress.quorum_set.items)
    ∙ ap (λ cs. list_all (λ ks. is_majority eq ks set) cs) c.quorum_set
    ∙ list_all-map (λ ks. is_majority eq ks set) (λ q. q.items) old.progress.quorum_set.items in
    record {
      ordered = order_alike eq cmp part (has_quorum eq) old.progress new.progress quorums c.voter_count c.default_part c.granted ids parts
          r.ordered;
      counts_by = record {
        configs = c.quorum_set ∙ r.counts_by.configs ∙ sym configs;
        voters = λ id. voters_alike eq cmp part (has_quorum eq) old.progress new.progress quorums c.voter_count c.default_part c.granted ids
            parts id ∙ r.counts_by.voters id ∙ ap (λ cs. is_voter_of eq cs id) (sym configs);
        known = λ id.
            zip_there IsClone (eq id) old.progress.entries new.progress.entries c.entries ∙ r.counts_by.known id
            ∙ ap (λ cs. is_voter_of eq cs id || is_some (node_at id_cmp old.membership.nodes id)) (sym configs)
            ∙ ap (λ b. is_voter_of eq new.membership.configs id || b)
            (sym (nodes_there laws id_cmp ties same old.membership.nodes new.membership.nodes (second_so _ _ nodes) id));
      };
    }
