-- How the ids of nodes, nodes, and the leader ids of votes and of log ids compare, taken from the traits
-- of their types.
use Rattle.std.specs.Prelude.{ℕ, Bool, Option}
use Rattle.std.specs.declared.cmp.Ordering.{Ordering}
use Rattle.raft_progress.specs.progress.Comparisons.{OrdMembers}

-- the type of `L.LeaderIdentity` in a clause
abbrev pub LeaderMembers : Type 0 → Type 0 → Type 0 → Type 1
LeaderMembers L K C =
    record {
      is_default : L → Type 0;
      eq : L → L → Bool;
      order : L → L → Option Ordering;
      term_of : L → ℕ;
      voted : L → Option K;
      committed : L → C;
      leader_of : ℕ → K → L;
      committed_of : ℕ → K → C;
      same_as : L → C → Bool;
    }

-- when two ids of nodes, two nodes, two leader ids and two committed leader ids are equal, how they
-- compare, and which node and which committed leader id a leader id is of
pub record Compared (K N L C : Type 0) : Type 0 where
  pub id_eq : K → K → Bool
  pub id_cmp : K → K → Ordering
  pub node_eq : N → N → Bool
  pub leader_eq : L → L → Bool
  pub order : L → L → Option Ordering
  pub term_of : L → ℕ
  pub voted : L → Option K
  pub committed : L → C
  pub leader_of : ℕ → K → L
  pub eq : C → C → Bool
  pub cmp : C → C → Ordering

-- the comparisons of these traits
abbrev pub compared : {K N L C : Type 0} → OrdMembers K → (N → N → Bool) → LeaderMembers L K C
    → OrdMembers C → Compared K N L C
compared ids node_eq leaders logs =
    record {
      id_eq = ids.eq;
      id_cmp = ids.cmp;
      node_eq = node_eq;
      leader_eq = leaders.eq;
      order = leaders.order;
      term_of = leaders.term_of;
      voted = leaders.voted;
      committed = leaders.committed;
      leader_of = leaders.leader_of;
      eq = logs.eq;
      cmp = logs.cmp;
    }
