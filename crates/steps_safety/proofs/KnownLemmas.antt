-- What a server knows to be committed: less than that, and what it knows as a leader.
use Rattle.std.specs.Prelude.{◌≡◌, ◌≤◌, ◌-◌, ℕ, suc, Bool, List, take}
use Rattle.std.proofs.Common.{ap, ◌∙◌, arith}
use Rattle.safety_laws.specs.Apply.{IsKnownCommitted}
use Rattle.safety_laws.specs.Events.{Event, History, log_after, term_after}
use Rattle.safety_laws.specs.Facts.{appended}
use Rattle.safety_laws.specs.Log.{Entry}
use Rattle.safety_laws.specs.Rules.{FollowsRaft}
use Rattle.safety_laws.specs.Safety.{IsSafe}
use Rattle.safety_laws.proofs.lemmas.ApplyLemmas.{applied}
use Rattle.safety_laws.proofs.lemmas.PrefixLemmas.{prefix_trans, take_within}
use Rattle.steps_safety.specs.Server.{KnowsCommitted}

module _ {C K D : Type 0} (rank : C → ℕ) (quorum : List (Entry C D) → (K → Bool) → Bool) (h : History C K D)
    (es : List (Event C K D)) where
  -- what a server knows to be committed, it knows to be so in part
  pub less_known : (m n : ℕ) → m ≤ n → KnowsCommitted rank quorum h es n → KnowsCommitted rank quorum h es m
  less_known m n le knows =
      let may = knows.may in
      record {
        may = record {
          term = may.term;
          leader = may.leader;
          elected = may.elected;
          written = (let most = may.written in omega (arith, le, most));
          in_log = prefix_trans (take_within m n (h.leader_log may.term may.leader) le) may.in_log;
          known = record {
            in_term = may.known.in_term;
            by_leader = may.known.by_leader;
            committed_to = may.known.committed_to;
            counted_at = may.known.counted_at;
            committed = may.known.committed;
            not_later = may.known.not_later;
            is = prefix_trans (take_within m n (h.leader_log may.term may.leader) le) may.known.is;
          };
        };
        reached = knows.reached;
      }

  -- of a server that knows all before an index to be committed, each part of it
  pub part_known : (end : ℕ) → ((i : ℕ) → end ≡ suc (suc i) → KnowsCommitted rank quorum h es (suc i)) → (i : ℕ) → suc (suc i) ≤ end
      → KnowsCommitted rank quorum h es (suc i)
  part_known end all i le =
      let j = end - 2 in less_known (suc i) (suc j) (omega (arith, le)) (all j (omega (arith, le)))

  -- what a leader of the server's log knows as a server, it knows as the leader
  pub leader_knows : FollowsRaft rank quorum h → IsSafe rank quorum h → (t : C) (s : K) → h.leader_log t s ≡ log_after es
      → term_after rank es ≤ rank t → (n : ℕ) → KnowsCommitted rank quorum h es n → IsKnownCommitted rank quorum h t s n
  leader_knows lawful safe t s log reached n knows =
      let may = knows.may in
      let low = knows.reached in
      let same = applied rank (appended quorum) h lawful safe es n may in
      record {
        in_term = may.known.in_term;
        by_leader = may.known.by_leader;
        committed_to = may.known.committed_to;
        counted_at = may.known.counted_at;
        committed = may.known.committed;
        not_later = omega (arith, may.known.not_later, low, reached);
        is = rw (ap (λ (l : List (Entry C D)). take n l) log ∙ same) may.known.is;
      }
