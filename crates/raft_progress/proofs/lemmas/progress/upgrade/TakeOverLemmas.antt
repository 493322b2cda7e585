-- What stays while entries are taken over, and what they make of a new progress.
use Rattle.std.specs.Prelude.{◌≡◌, Bool, true, false, cond, ◌||◌, List, [], ◌∷◌, ◌++◌, Option, Some, None, is_some}
use Rattle.std.specs.declared.cmp.Ordering.{Ordering}
use Rattle.std.specs.Cmp.{IsEquivalence, IsTotalOrder}
use Rattle.std.specs.List.{AllByRecursion, IsDistinct}
use Rattle.std.specs.Map.{keys_of, lookup}
use Rattle.std.specs.Set.{is_member}
use Rattle.std.specs.Ordering.{is_le}
use Rattle.std.proofs.Common.{ap, refl, subst, sym, ◌∙◌, true≢false}
use Rattle.std.proofs.lemmas.List.{append-nil, append_assoc}
use Rattle.raft_progress.specs.Inner.Settled.{HasVotersOfSet}
use Rattle.raft_progress.specs.Inner.Sides.{AreSidesOf, AreSidesOfProgress}
use Rattle.raft_progress.specs.progress.Answered.{is_refused}
use Rattle.raft_progress.specs.progress.CountedValue.{AtMost}
use Rattle.raft_progress.specs.progress.NewProgress.{AreFirstEntries, HasClone, IsNew}
use Rattle.raft_progress.specs.progress.ProgressView.{ProgressView, state}
use Rattle.raft_progress.specs.progress.Steps.{IsWritten}
use Rattle.raft_progress.specs.progress.Updated.{IsNotLower, IsUpdated}
use Rattle.raft_progress.specs.progress.Upgrade.{CanUpgrade, IsUpgraded}
use Rattle.raft_progress.specs.progress.UpgradeFold.{IsFold, TakesOverEach}
use Rattle.raft_progress.specs.declared.progress.sides.Sides.{Sides}
use Rattle.raft_progress.specs.declared.progress.stat.Stat.{Stat}
use Rattle.raft_progress.specs.declared.progress.steps.Reply.{Reply}
use Rattle.raft_progress.specs.declared.progress.steps.Reply.TheVariants.{BadLearners, BelowDefault, Granted, OutOfMemory, Refused, Unknown, WouldFall}
use Rattle.raft_progress.proofs.lemmas.OrderLemmas.{lt_reversed}
use Rattle.raft_progress.proofs.lemmas.progress.UpdateLemmas.{lookup_alike, unknown_same}
use Rattle.raft_progress.proofs.lemmas.progress.entries.EntriesLemmas.{no_value}
use Rattle.raft_progress.proofs.lemmas.progress.upgrade.UpgradeLemmas.{lookup_other, passed_over, took_over, upgraded_none}

-- an id without an entry
abbrev pub NotIn : {ID V : Type 0} → (ID → ID → Bool) → List (ID × V) → ID → Type 0
NotIn eq es x = lookup (eq x) es ≡ None

module _ {ID V P QS : Type 0} {eq : ID → ID → Bool} (laws : IsEquivalence eq) where
  -- the same quorum set, voters and ids, and the same values of other ids
  pub record Keeps (Other : ID → Type 0) (old new : ProgressView ID V P QS) : Type 0 where
    pub quorum_set : new.quorum_set ≡ old.quorum_set
    pub voters : (x : ID) → (state eq new).is_voter x ≡ (state eq old).is_voter x
    pub known : (x : ID) → is_some ((state eq new).value x) ≡ is_some ((state eq old).value x)
    pub others : (x : ID) → Other x → (state eq new).value x ≡ (state eq old).value x

  module _ (cmp : P → P → Ordering) (part : V → P) where
    -- an update keeps all but the value of its id
    update_keeps : (Left : V → V → Type 0) (old : ProgressView ID V P QS) (id : ID) (new : ProgressView ID V P QS)
        → IsUpdated eq cmp part Left old id new → Keeps (λ x. eq x id ≡ false) old new
    update_keeps Left old id new u = by ((state eq old).value id) refl
      where
        by : (o : Option V) → (state eq old).value id ≡ o → Keeps (λ x. eq x id ≡ false) old new
        by None h =
            let same = unknown_same eq cmp part Left old id new u h in
            record {
              quorum_set = same.quorum_set;
              voters = same.is_voter;
              known = λ x. ap is_some (same.value x);
              others = λ x other. same.value x;
            }
        by (Some v) h =
            let k = u.known v h in
            let w : V = k.0 in
            let writes = k.2 in
            record {
              quorum_set = writes.quorum_set;
              voters = writes.is_voter;
              known = λ x. ap is_some (writes.value x) ∙ was x (eq id x) refl;
              others = λ x other. writes.value x
                  ∙ ap (λ b. cond b (Some w) ((state eq old).value x)) (laws.symm id x ∙ other);
            }
          where
            was : (x : ID) (b : Bool) → eq id x ≡ b
                → is_some (cond b (Some (u.known v h).0) ((state eq old).value x)) ≡ is_some ((state eq old).value x)
            was x true t = sym (ap is_some (sym (lookup_alike laws id x t old.entries) ∙ h))
            was x false t = refl

    module _ (id_cmp : ID → ID → Ordering) (IsClone : V → V → Type 0) (has_quorum : QS → (ID → Bool) → Bool)
        (is_voter : QS → ID → Bool) where
      abbrev Each : List (ID × V) → ProgressView ID V P QS → ProgressView ID V P QS → Type 0
      Each = TakesOverEach eq id_cmp cmp part IsClone has_quorum is_voter

      -- what is taken over keeps all but the values of its ids
      pub each_keeps : (es : List (ID × V)) (first new : ProgressView ID V P QS) → Each es first new
          → Keeps (NotIn eq es) first new
      each_keeps [] first new same =
          subst (Keeps (NotIn {V = V} eq []) first) (sym same)
          record { quorum_set = refl; voters = λ x. refl; known = λ x. refl; others = λ x other. refl }
      each_keeps (e ∷ es) first new (m, u, r, rest) =
          let a = update_keeps (λ v w. IsClone e.1 w) first e.0 m u in
          let b = each_keeps es m new rest in
          record {
            quorum_set = b.quorum_set ∙ a.quorum_set;
            voters = λ x. b.voters x ∙ a.voters x;
            known = λ x. b.known x ∙ a.known x;
            others = λ x other. by x (eq x e.0) refl other a.others b.others;
          }
        where
          by : (x : ID) (c : Bool) → eq x e.0 ≡ c → cond c (Some e.1) (lookup (eq x) es) ≡ None
              → ((x : ID) → eq x e.0 ≡ false → (state eq m).value x ≡ (state eq first).value x)
              → ((x : ID) → lookup (eq x) es ≡ None → (state eq new).value x ≡ (state eq m).value x)
              → (state eq new).value x ≡ (state eq first).value x
          by x true t other a b = absurd (no_value _ _ other refl)
          by x false t other a b = b x other ∙ a x t

      module _ (quorum_set : QS) (learners : List ID) (default : V) where
        abbrev Upgraded : List (ID × V) → ProgressView ID V P QS → Type 0
        Upgraded seen p =
            IsUpgraded eq IsClone part (is_voter quorum_set) quorum_set learners default (λ x. lookup (eq x) seen) (state eq p)

        still_new : (seen : List (ID × V)) (e : ID × V) (ks : List ID) → AllByRecursion (λ y. eq e.0 y ≡ false) ks
            → AllByRecursion (NotIn eq seen) ks
            → AllByRecursion (NotIn eq (seen ++ e ∷ [])) ks
        still_new seen e [] a b = tt
        still_new seen e (k ∷ ks) a b =
            (lookup_other (eq k) seen e (laws.symm k e.0 ∙ a.0) ∙ b.0, still_new seen e ks a.1 b.1)

        upgraded_further : (seen es : List (ID × V)) (old new : ProgressView ID V P QS) → Upgraded seen old
            → IsDistinct eq (keys_of es) → AllByRecursion (NotIn eq seen) (keys_of es) → Each es old new
            → Upgraded (seen ++ es) new
        unfolding IsDistinct
        upgraded_further seen [] old new u d n same =
            subst (λ (ss : List (ID × V)). Upgraded ss new) (sym (append-nil seen))
            (subst (Upgraded seen) (sym same) u)
        upgraded_further seen (e ∷ es) old new u d n (m, w, r, rest) =
            subst (λ (ss : List (ID × V)). Upgraded ss new) (append_assoc seen (e ∷ []) es)
            (upgraded_further (seen ++ e ∷ []) es m new (by ((state eq old).value e.0) refl) d.1
            (still_new seen e (keys_of es) d.0 n.1) rest)
          where
            alike : (x y : ID) → eq x y ≡ true → (state eq old).value x ≡ (state eq old).value y
            alike x y h = lookup_alike laws x y h old.entries

            by : (o : Option V) → (state eq old).value e.0 ≡ o → Upgraded (seen ++ e ∷ []) m
            by None h =
                passed_over laws IsClone part (is_voter quorum_set) quorum_set learners default seen (state eq old) (state eq m) u alike
                e n.0 h (unknown_same eq cmp part (λ v w. IsClone e.1 w) old e.0 m w h)
            by (Some v) h =
                let k = w.known v h in
                took_over laws IsClone part (is_voter quorum_set) quorum_set learners default seen (state eq old) (state eq m) u alike
                e n.0 k.0 k.1 v h k.2

        module _ (made : ProgressView ID V P QS)
            (values : IsNew eq IsClone part (is_voter quorum_set) quorum_set learners default (state eq made)) where
          -- the voters of a new progress are those of its quorum set
          pub new_voters : HasVotersOfSet eq is_voter made
          new_voters x m =
              subst (λ (qs : QS). is_voter qs x ≡ true) (sym values.same_quorum_set) (sym (values.voters x) ∙ m)

          -- no value that can be inherited is below the one that a new progress has
          pub none_below : ((w : V) → IsClone default w → part w ≡ part default) → (old : ID → Option V)
              → CanUpgrade eq cmp part (is_voter quorum_set) learners default old → (x : ID) (v w : V) → old x ≡ Some v
              → (state eq made).value x ≡ Some w → AtMost cmp (part w) (part v)
          none_below clones old can x v w was is = by (is_voter quorum_set x || is_member eq learners x) refl
            where
              by : (b : Bool) → (is_voter quorum_set x || is_member eq learners x) ≡ b → AtMost cmp (part w) (part v)
              by true t =
                  let d : HasClone IsClone default ((state eq made).value x) = values.value x t in
                  let same : d.0 ≡ w = let k = d.1 in cc in
                  let equal : part w ≡ part default = clones w (subst (IsClone default) same d.2) in
                  subst (λ (p : P). AtMost cmp p (part v)) (sym equal) (can x v was t)
              by false t = absurd (no_value _ _ (values.others x t) is)

        -- a new progress that has taken over the counts and the entries of another is upgraded
        module _ (made : ProgressView ID V P QS) (stat : Stat) (es : List (ID × V)) (distinct : IsDistinct eq (keys_of es))
            (values : IsNew eq IsClone part (is_voter quorum_set) quorum_set learners default (state eq made))
            (entries : AreFirstEntries id_cmp learners made) (granted : made.granted ≡ part default) (new : ProgressView ID V P QS)
            (each : Each es (record made { stat = stat }) new) where
          pub taken_over : Upgraded es new
          taken_over =
              upgraded_further [] es (record made { stat = stat }) new
              (upgraded_none eq IsClone part (is_voter quorum_set) quorum_set learners default (state eq made) values) distinct
              (none_seen (keys_of es)) each
            where
              none_seen : (ks : List ID) → AllByRecursion (NotIn {V = V} eq []) ks
              none_seen [] = tt
              none_seen (k ∷ ks) = (refl, none_seen ks)

          -- and in the same order as by the fold
          pub folded : IsFold eq id_cmp cmp part IsClone has_quorum is_voter es stat quorum_set learners default new
          folded = record {
            first = record made { stat = stat };
            begins = record {
              values = values;
              entries = record {
                voters = entries.voters;
                ascending = entries.ascending;
                ids = entries.ids;
                first = entries.first;
              };
              granted = granted;
              counts = refl;
            };
            takes_over = each;
          }

  -- the voters stay those of the quorum set
  pub voters_kept : (is_voter : QS → ID → Bool) (Other : ID → Type 0) (old new : ProgressView ID V P QS) → Keeps Other old new
      → HasVotersOfSet eq is_voter old → HasVotersOfSet eq is_voter new
  voters_kept is_voter Other old new k h x m =
      subst (λ (qs : QS). is_voter qs x ≡ true) (sym k.quorum_set) (h x (sym (k.voters x) ∙ m))

  -- and the sides those of the progress
  pub sides_kept : (id_cmp : ID → ID → Ordering) (has_quorum : QS → (ID → Bool) → Bool) (Other : ID → Type 0)
      (old new : ProgressView ID V P QS) → Keeps Other old new → (sides : Sides)
      → AreSidesOfProgress eq id_cmp has_quorum old sides → AreSidesOfProgress eq id_cmp has_quorum new sides
  sides_kept id_cmp has_quorum Other old new k sides h ids ascending known =
      subst (λ (qs : QS). AreSidesOf eq (has_quorum qs) ids sides) (sym k.quorum_set)
      (h ids ascending (λ x. known x ∙ k.known x))

-- the write of a value whose part does not fall is not refused
pub not_refused : {ID V P QS : Type 0} (eq : ID → ID → Bool) {cmp : P → P → Ordering} (o : IsTotalOrder cmp) (part : V → P)
    (has_quorum : QS → (ID → Bool) → Bool) (old : ProgressView ID V P QS) (id : ID) (value : V) (reply : Reply ID P)
    (new : ProgressView ID V P QS) → IsNotLower eq cmp part old id value
    → IsWritten eq cmp part has_quorum (state eq old) id value reply (state eq new) → is_refused reply ≡ false
not_refused eq o part has_quorum old id value (Granted p) new up w = refl
not_refused eq o part has_quorum old id value (Unknown p) new up w = refl
not_refused eq o part has_quorum old id value WouldFall new up (v, present, falls, same) =
    absurd (true≢false (sym (up v present) ∙ ap is_le (o.antisymm (part v) (part value)) ∙ lt_reversed _ falls))
not_refused eq o part has_quorum old id value BadLearners new up w = absurd w
not_refused eq o part has_quorum old id value (BelowDefault x) new up w = absurd w
not_refused eq o part has_quorum old id value (Refused x) new up w = absurd w
not_refused eq o part has_quorum old id value OutOfMemory new up w = absurd w
