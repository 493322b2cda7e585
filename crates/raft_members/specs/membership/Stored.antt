-- The contents of a stored membership, and when two are equal. No other file reads its private
-- fields.
use Rattle.std.specs.Prelude.{◌&&◌, Bool, Option}
use Rattle.raft_base.specs.LogId.{same_ids}
use Rattle.raft_base.specs.declared.log_id.LogIdOf.{LogIdOf}
use Rattle.raft_members.specs.membership.Members.{MemberList, same_members}
use Rattle.raft_members.specs.declared.membership.stored.StoredMembershipOf.{StoredMembershipOf}

-- the log id of the entry, if there is one
abbrev pub log_id_of : {C K N : Type 0} → StoredMembershipOf C K N → Option (LogIdOf C)
log_id_of stored = stored.log_id

-- the membership
abbrev pub membership_of : {C K N : Type 0} → StoredMembershipOf C K N → MemberList K N
membership_of stored = stored.membership

-- two stored memberships are equal: equal log ids, or none, and equal memberships
abbrev pub same_stored : {C K N : Type 0} → (C → C → Bool) → (K → K → Bool) → (N → N → Bool)
    → StoredMembershipOf C K N → StoredMembershipOf C K N → Bool
same_stored leader eq same a b =
    same_ids leader (log_id_of a) (log_id_of b)
    && same_members eq same (membership_of a) (membership_of b)
