-- Keys of a list as lemmas read them.
use Rattle.std.proofs.Common.{◌<◌, List, [], ◌∷◌, IsTrue}
use Rattle.std.specs.Ordering.{is_le, is_lt}
use Rattle.std.specs.declared.cmp.Ordering.{Ordering}
use Rattle.raft_base.specs.declared.log_id.LogIdOf.{LogIdOf}
use Rattle.raft_progress.proofs.lemmas.OrderLemmas.{AtMost-from_lt}

-- these may be keys: what the test says, key by key
abbrev pub IsKeyList : {C : Type 0} → (C → C → Ordering) → List (LogIdOf C) → Type 0
IsKeyList cmp [] = Unit {0}
IsKeyList cmp (k ∷ []) = Unit {0}
IsKeyList cmp (k ∷ l ∷ []) = (k.index < l.index) × IsTrue (is_le (cmp k.leader_id l.leader_id))
IsKeyList cmp (k ∷ l ∷ m ∷ ks) = (k.index < l.index) × IsTrue (is_lt (cmp k.leader_id l.leader_id)) × IsKeyList cmp (l ∷ m ∷ ks)

-- without its first key a list is one too
pub tail_keys : {C : Type 0} (cmp : C → C → Ordering) (k l : LogIdOf C) (ks : List (LogIdOf C)) → IsKeyList cmp (k ∷ l ∷ ks)
    → IsKeyList cmp (l ∷ ks)
tail_keys cmp k l [] s = tt
tail_keys cmp k l (m ∷ ks) s = s.2

-- its first two keys rise
pub step_keys : {C : Type 0} (cmp : C → C → Ordering) (k l : LogIdOf C) (ks : List (LogIdOf C)) → IsKeyList cmp (k ∷ l ∷ ks)
    → (k.index < l.index) × IsTrue (is_le (cmp k.leader_id l.leader_id))
step_keys cmp k l [] s = s
step_keys cmp k l (m ∷ ks) s = (s.0, AtMost-from_lt cmp k.leader_id l.leader_id s.1)
