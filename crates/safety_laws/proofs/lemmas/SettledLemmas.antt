-- A config that another one follows was known to be committed when that was appended.
use Rattle.std.specs.Prelude.{◌≡◌, ◌⊎◌, ◌<◌, ◌≤◌, ℕ, suc, Bool, Option, List, [], ◌∷◌, ◌++◌, length, take}
use Rattle.std.proofs.Common.{inl, inr, arith}
use Rattle.std.proofs.lemmas.List.{length-take-le, length-append}
use Rattle.std.proofs.lemmas.Bool.{cases_lt}
use Rattle.safety_laws.specs.Log.{Entry}
use Rattle.safety_laws.specs.Events.{History}
use Rattle.safety_laws.specs.Facts.{Counting, IsElectedBy}
use Rattle.safety_laws.specs.Configs.{HoldNoConfig}
use Rattle.safety_laws.specs.AppliedConfigs.{AcksByRule, FollowsRaftWhenApplied, FollowsRaftWhenSettled, IsFollowed, IsKnown, MayAppendConfig, SettledConfigsSuffice, VotesByRule, applied}
use Rattle.safety_laws.proofs.lemmas.PrefixLemmas.{prefix_itself}
use Rattle.safety_laws.proofs.lemmas.ServerLemmas.{IsFrom, prefix_from, written_is_from, candidate_from}

module _ {T ID D M : Type 0} (rank : T → ℕ) (config_of : D → Option M) (initial : M) (quorum_of : M → (ID → Bool) → Bool)
    (h : History T ID D) (laws : FollowsRaftWhenSettled rank config_of initial quorum_of h) where
  abbrev Q : Counting T ID D
  Q = applied rank config_of initial quorum_of

  abbrev Known : (T → ℕ → Type 0) → List (Entry T D) → Type 0
  Known before l = IsKnown rank config_of initial quorum_of h before l

  weaken : (f g : T → ℕ → Type 0) (l : List (Entry T D)) → ((s : T) (b : ℕ) → f s b → g s b)
      → (HoldNoConfig config_of l ⊎ Known f l) → HoldNoConfig config_of l ⊎ Known g l
  weaken f g l more (inl none) = inl none
  weaken f g l more (inr k) =
      inr (record {
        in_term = k.in_term;
        by_leader = k.by_leader;
        committed_to = k.committed_to;
        counted_at = k.counted_at;
        committed = k.committed;
        before = more k.in_term k.counted_at k.before;
        known_to = k.known_to;
        is = k.is;
        none_since = k.none_since;
      })

  -- when the next config was appended, by a leader of a term below the bound
  followed : (bound : ℕ) (log : List (Entry T D)) → IsFrom rank Q h laws.keeps_rules bound log → (a : ℕ)
      → IsFollowed rank config_of initial quorum_of h log a
      → (r : ℕ) × (r < bound) × (HoldNoConfig config_of (take a log)
      ⊎ Known (λ (s : T) (b : ℕ). (rank s < r) ⊎ ((rank s ≡ r) × (b < a))) (take a log))
  followed bound log from a x =
      go (prefix_from rank Q h laws.keeps_rules bound now log from x.is)
    where
      now : List (Entry T D)
      now = take a log ++ x.next ∷ []

      long : length now ≡ suc a
      long = omega (arith, length-append (take a log) (x.next ∷ []), length-take-le a log x.within)

      go : IsFrom rank Q h laws.keeps_rules bound now
          → (r : ℕ) × (r < bound) × (HoldNoConfig config_of (take a log)
          ⊎ Known (λ (s : T) (b : ℕ). (rank s < r) ⊎ ((rank s ≡ r) × (b < a))) (take a log))
      go (inl none) = absurd (omega (arith, long, none))
      go (inr o) =
          let may : MayAppendConfig rank config_of initial quorum_of h o.term (take a log) x.next_config =
          laws.appends o.term o.leader o.elected (take a log) x.next x.next_config o.start
          (omega (arith, o.longer, long, length-take-le a log x.within)) x.holds in
          (rank o.term, o.below, rw (length-take-le a log x.within) at may.settled)

  votes : (t : T) (c : ID) → IsElectedBy rank Q h t c → VotesByRule rank config_of initial quorum_of h t c
  votes t c el a by = go (laws.votes t c el a by)
    where
      l : List (Entry T D)
      l = h.candidate_log t c

      go : (IsFollowed rank config_of initial quorum_of h l a
          ⊎ (HoldNoConfig config_of (take a l) ⊎ Known (λ (s : T) (b : ℕ). rank s < rank t) (take a l)))
          → HoldNoConfig config_of (take a l) ⊎ Known (λ (s : T) (b : ℕ). rank s < rank t) (take a l)
      go (inr k) = k
      go (inl x) =
          let f = followed (rank t) l (candidate_from rank Q h laws.keeps_rules t c el l (prefix_itself l)) a x in
          weaken (λ (s : T) (b : ℕ). (rank s < f.0) ⊎ ((rank s ≡ f.0) × (b < a))) (λ (s : T) (b : ℕ). rank s < rank t)
          (take a l) (λ s b z. lower f.0 f.1 s b z) f.2
        where
          lower : (r : ℕ) → r < rank t → (s : T) (b : ℕ) → (rank s < r) ⊎ ((rank s ≡ r) × (b < a)) → rank s < rank t
          lower r lt s b (inl less) = omega arith
          lower r lt s b (inr same) = omega (arith, same.0)

  acks : (t : T) (c : ID) → IsElectedBy rank Q h t c → AcksByRule rank config_of initial quorum_of h t c
  acks t c el a by = go (laws.acks t c el a by)
    where
      l : List (Entry T D)
      l = h.leader_log t c

      go : (IsFollowed rank config_of initial quorum_of h l a
          ⊎ ((a ≤ length l) × (HoldNoConfig config_of (take a l)
          ⊎ Known (λ (s : T) (b : ℕ). (rank s < rank t) ⊎ ((rank s ≡ rank t) × (b < a))) (take a l))))
          → (a ≤ length l) × (HoldNoConfig config_of (take a l)
          ⊎ Known (λ (s : T) (b : ℕ). (rank s < rank t) ⊎ ((rank s ≡ rank t) × (b < a))) (take a l))
      go (inr k) = k
      go (inl x) =
          let f = followed (suc (rank t)) l (written_is_from rank Q h laws.keeps_rules t c el l (prefix_itself l)) a x in (
            x.within,
            weaken (λ (s : T) (b : ℕ). (rank s < f.0) ⊎ ((rank s ≡ f.0) × (b < a)))
                (λ (s : T) (b : ℕ). (rank s < rank t) ⊎ ((rank s ≡ rank t) × (b < a))) (take a l)
                (λ s b z. lower f.0 f.1 s b z) f.2,
          )
        where
          lower : (r : ℕ) → r < suc (rank t) → (s : T) (b : ℕ) → (rank s < r) ⊎ ((rank s ≡ r) × (b < a))
              → (rank s < rank t) ⊎ ((rank s ≡ rank t) × (b < a))
          lower r lt s b (inl less) = inl (omega arith)
          lower r lt s b (inr same) = by_rank (cases_lt (rank s) (rank t))
            where
              by_rank : ((rank s < rank t) ⊎ (rank t ≤ rank s)) → (rank s < rank t) ⊎ ((rank s ≡ rank t) × (b < a))
              by_rank (inl less) = inl less
              by_rank (inr ge) = inr (omega (arith, ge, lt, same.0), same.1)

  settled_follows : FollowsRaftWhenApplied rank config_of initial quorum_of h
  settled_follows = record {
    keeps_rules = laws.keeps_rules;
    initial_intersects = laws.initial_intersects;
    votes = votes;
    acks = acks;
    appends = λ t c el log e m st le is.
        (laws.appends t c el log e m st le is).quorums;
  }

pub settled_suffices : {T ID D M : Type 0} → SettledConfigsSuffice T ID D M
settled_suffices {T} {ID} {D} {M} rank config_of initial quorum_of h laws =
    settled_follows rank config_of initial quorum_of h laws
