-- A leader's commit and proposal as the theorems see them.
use Rattle.std.specs.Prelude.{◌≡◌, ◌<◌, ℕ, Bool, true, Option, List, length, drop}
use Rattle.std.specs.Set.{is_member}
use Rattle.raft_members.specs.quorum.Coherence.{is_coherent}
use Rattle.raft_members.specs.quorum.Majority.{is_joint_majority}
use Rattle.safety_laws.specs.Configs.{HoldNoConfig, MayProposeMembership, effective_config, is_quorum}
use Rattle.safety_laws.specs.Log.{Entry}
use Rattle.safety_laws.specs.Events.{History}
use Rattle.safety_laws.specs.Facts.{HasAcked, IsCommitted, IsElected}

-- in any history with an elected leader whose log has these lengths, and in which a quorum is as told
-- in its log and these servers have acknowledged n entries, the first n entries are committed
abbrev pub MayCommit : {ID : Type 0} → (ID → ID → Bool) → ((ID → Bool) → Bool) → ℕ → ℕ → List ID
    → ℕ → Type 0
MayCommit {ID} eq has_quorum from written acked n =
    (rank : ℕ → ℕ) (quorum : List (Entry ℕ ℕ) → (ID → Bool) → Bool) (h : History ℕ ID ℕ) (t : ℕ)
    (c : ID) → IsElected rank quorum h t c → length (h.candidate_log t c) ≡ from
    → length (h.leader_log t c) ≡ written
    → ((set : ID → Bool) → quorum (h.leader_log t c) set ≡ has_quorum set)
    → ((v : ID) → is_member eq acked v ≡ true → HasAcked t c n (h.events v))
    → IsCommitted rank quorum h t c n written

-- in any history, a leader that was elected with a log of `from` entries, and has committed so many
-- first entries of its log if an entry of its own is among them, may propose a membership that is
-- coherent with the one in effect, if no entry after the first `configs` holds one
abbrev pub MayPropose : ℕ → ℕ → ℕ → Type 0
MayPropose from committed configs =
    (rank : ℕ → ℕ) (eq : ℕ → ℕ → Bool) (configs_of : ℕ → Option (List (List ℕ)))
    (initial : List (List ℕ)) (h : History ℕ ℕ ℕ) (t c counted_at : ℕ) (next : List (List ℕ))
    → (from < committed
    → IsCommitted rank (is_quorum rank configs_of initial (is_joint_majority eq)) h t c committed counted_at)
    → HoldNoConfig configs_of (drop configs (h.leader_log t c))
    → is_coherent eq (effective_config configs_of initial (h.leader_log t c)) next ≡ true
    → MayProposeMembership rank eq configs_of initial h t c (h.leader_log t c) next
