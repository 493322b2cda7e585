-- A candidate that counts votes keeps rule 2, and a leader commits by the rule.
use Rattle.std.specs.Prelude.{◌≡◌, ◌⊎◌, ◌<◌, ◌≤◌, ℕ, zero, suc, true, List, [], ◌∷◌, length, take, Option, Some, None}
use Rattle.std.proofs.Common.{refl, sym, ap, ◌∙◌, inl, inr, arith}
use Rattle.std.proofs.lemmas.Bool.{cases_lt}
use Rattle.std.proofs.lemmas.List.{length-take-le}
use Rattle.raft_base.specs.declared.log_id.LogIdOf.{LogIdOf}
use Rattle.raft_base.specs.LogId.{id_le}
use Rattle.safety_laws.specs.Log.{Entry, last_term}
use Rattle.safety_laws.specs.Events.{Ack, Append, Event, GrantVote, LateVote, Restart}
use Rattle.safety_laws.specs.Facts.{HasAcked, IsElected, appended}
use Rattle.safety_laws.specs.Rules.{FollowsRaft}
use Rattle.steps_safety.proofs.Calls.{CommitsByRule}
use Rattle.steps_safety.specs.Server.{IsIdAt, IsInLog, Leaders, Place}
use Rattle.safety_laws.proofs.lemmas.PrefixLemmas.{prefix_take, prefix_trans, take_prefix}
use Rattle.safety_laws.proofs.lemmas.ServerLemmas.{IsFrom, candidate_from, candidate_start, last_of}
use Rattle.steps_safety.proofs.AppendingLemmas.{log_below}
use Rattle.steps_safety.proofs.PlaceLemmas.{last_of_take}

module _ {T ID D : Type 0} where
  pub acked_less : (t : T) (c : ID) (n m : ℕ) (ds : List (Event T ID D)) → n ≤ m → HasAcked t c m ds → HasAcked t c n ds
  acked_less t c n m [] le a = a
  acked_less t c n m (GrantVote u e ∷ ds) le a = acked_less t c n m ds le a
  acked_less t c n m (LateVote u e ∷ ds) le a = acked_less t c n m ds le a
  acked_less t c n m (Append u e log ∷ ds) le a = acked_less t c n m ds le a
  acked_less t c n m (Ack u e i ∷ ds) le (inl is) = inl (is.0, is.1, (let x = is.2 in omega (arith, le, x)))
  acked_less t c n m (Ack u e i ∷ ds) le (inr a) = inr (acked_less t c n m ds le a)
  acked_less t c n m (Restart log ∷ ds) le a = acked_less t c n m ds le a

-- an entry of a leader's own is past the log with which it was elected
pub own_past : {L C K D : Type 0} (k : Leaders L C K) (p : Place L C K D) → FollowsRaft p.rank p.quorum p.history → (leader : L) (node : K)
    → IsElected p.rank p.quorum p.history (k.committed leader) node → (k.committed leader ≡ p.first → ⊥) → (granted : LogIdOf C)
    → granted.leader_id ≡ k.committed leader → IsInLog p.first p.terms (p.history.leader_log (k.committed leader) node) granted
    → length (p.history.candidate_log (k.committed leader) node) < granted.index
own_past {L} {C} {K} {D} k p lawful leader node el not_first granted own there = own_term granted.index refl there.at
  where
    lead : List (Entry C D)
    lead = p.history.leader_log (k.committed leader) node

    own_term : (i : ℕ) → granted.index ≡ i → IsIdAt p.first (p.history.leader_log (k.committed leader) node) i granted
        → length (p.history.candidate_log (k.committed leader) node) < i
    own_term zero e is = absurd (not_first (sym own ∙ is))
    own_term (suc i) e is = go (cases_lt (length (p.history.candidate_log (k.committed leader) node)) (suc i))
      where
        go : ((length (p.history.candidate_log (k.committed leader) node) < suc i)
            ⊎ (suc i ≤ length (p.history.candidate_log (k.committed leader) node)))
            → length (p.history.candidate_log (k.committed leader) node) < suc i
        go (inl lt) = lt
        go (inr le) =
            by (candidate_from p.rank (appended p.quorum) p.history lawful (k.committed leader) node el front
            (prefix_take (suc i) (p.history.candidate_log (k.committed leader) node)))
          where
            front : List (Entry C D)
            front = take (suc i) (p.history.candidate_log (k.committed leader) node)

            size : length front ≡ suc i
            size = length-take-le (suc i) (p.history.candidate_log (k.committed leader) node) le

            is_front : take (suc i) lead ≡ front
            is_front =
                ap (λ (n : ℕ). take n lead) (sym size)
                ∙ take_prefix (prefix_trans (prefix_take (suc i) (p.history.candidate_log (k.committed leader) node))
                (candidate_start p.rank (appended p.quorum) p.history lawful (k.committed leader) node el))

            by : IsFrom p.rank (appended p.quorum) p.history lawful (p.rank (k.committed leader)) front
                → length (p.history.candidate_log (k.committed leader) node) < suc i
            by (inl none) = absurd (omega (arith, none, size))
            by (inr o) =
                let one = last_of p.rank (appended p.quorum) p.history lawful (p.rank (k.committed leader)) front o in
                let two = last_of_take p.rank 0 i lead is.0 is.1 in
                let three = ap (last_term p.rank) is_front in
                let low = o.below in
                absurd (omega (arith, one, two, three, low, ap p.rank is.2, ap p.rank own))

pub commits_by_rule : {L C K D : Type 0} → CommitsByRule L C K D
commits_by_rule {L} {C} {K} {D} k p ranked lawful safe leader node matching knows granted counted_at own there within written quorum =
    record {
      elected = knows.elected;
      own_term = own_past k p lawful leader node knows.elected knows.not_first granted own there;
      written = omega (arith, within, written);
      having = λ v. id_le k.cmp (Some granted) (matching v);
      is_quorum = record { within = within; written = written; is_quorum = quorum };
      have_acked = λ v yes. has (matching v) v refl yes;
    }
  where
    has : (o : Option (LogIdOf C)) (v : K) → matching v ≡ o → id_le k.cmp (Some granted) o ≡ true
        → HasAcked (k.committed leader) node granted.index (p.history.events v)
    has None v e h = cc
    has (Some m) v e h =
        acked_less (k.committed leader) node granted.index m.index (p.history.events v)
        (log_below k p ranked lawful leader node knows.elected granted m there (knows.in_log v m e) h) (knows.acked v m e)
