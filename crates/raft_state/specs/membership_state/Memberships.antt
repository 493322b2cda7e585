-- The two memberships that a node must know.
use Rattle.std.specs.Prelude.{◌≡◌, ℕ, Bool, ◌&&◌, [], Option, None}
use Rattle.raft_base.specs.LogId.{index_of}
use Rattle.raft_members.specs.membership.Members.{MemberList}
use Rattle.raft_members.specs.membership.Stored.{log_id_of, membership_of, same_stored}
use Rattle.raft_members.specs.declared.membership.stored.StoredMembershipOf.{StoredMembershipOf}

-- the last committed membership, and the last one in the log, the effective one
pub record Memberships (C K N : Type 0) : Type 0 where
  pub committed : StoredMembershipOf C K N
  pub effective : StoredMembershipOf C K N

-- the effective membership: its configs and its nodes
abbrev pub in_effect : {C K N : Type 0} → Memberships C K N → MemberList K N
in_effect m = membership_of m.effective

-- the index of the log entry that stored a membership, if there is one
abbrev pub index_at : {C K N : Type 0} → StoredMembershipOf C K N → Option ℕ
index_at stored = index_of (log_id_of stored)

-- two pairs are equal if both memberships are, with their log ids
abbrev pub same_memberships : {C K N : Type 0} → (C → C → Bool) → (K → K → Bool) → (N → N → Bool)
    → Memberships C K N → Memberships C K N → Bool
same_memberships leader eq same a b =
    same_stored leader eq same a.committed b.committed
    && same_stored leader eq same a.effective b.effective

-- no membership is stored: there is no log id, no config and no node
pub record IsNoMembership {C K N : Type 0} (stored : StoredMembershipOf C K N) : Type 0 where
  pub log_id : log_id_of stored ≡ None
  pub membership : membership_of stored ≡ record { configs = []; nodes = [] }
