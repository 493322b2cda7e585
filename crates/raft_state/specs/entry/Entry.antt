-- What a log entry contains.
use Rattle.std.specs.Prelude.{◌≡◌, Bool, Option, Some, None, true, false}
use Rattle.raft_base.specs.declared.log_id.LogIdOf.{LogIdOf}
use Rattle.raft_members.specs.membership.Members.{MemberList, same_members}
use Rattle.raft_state.specs.declared.entry.payload.EntryPayload.{EntryPayload}
use Rattle.raft_state.specs.declared.entry.payload.EntryPayload.TheVariants.{Blank, Normal, Membership}

-- a payload is blank
abbrev pub is_blank_payload : {K N D : Type 0} → EntryPayload K N D → Bool
is_blank_payload Blank = true
is_blank_payload (Normal d) = false
is_blank_payload (Membership m) = false

-- the membership that a payload stores, if there is one
abbrev pub payload_membership : {K N D : Type 0} → EntryPayload K N D → Option (MemberList K N)
payload_membership Blank = None
payload_membership (Normal d) = None
payload_membership (Membership m) = Some m

-- two payloads are equal: both blank, or of equal data, or of equal memberships
abbrev pub same_payload : {K N D : Type 0} → (K → K → Bool) → (N → N → Bool) → (D → D → Bool)
    → EntryPayload K N D → EntryPayload K N D → Bool
same_payload eq same eq_data Blank Blank = true
same_payload eq same eq_data Blank (Normal e) = false
same_payload eq same eq_data Blank (Membership w) = false
same_payload eq same eq_data (Normal d) Blank = false
same_payload eq same eq_data (Normal d) (Normal e) = eq_data d e
same_payload eq same eq_data (Normal d) (Membership w) = false
same_payload eq same eq_data (Membership m) Blank = false
same_payload eq same eq_data (Membership m) (Normal e) = false
same_payload eq same eq_data (Membership m) (Membership w) = same_members eq same m w

-- the log id of a default leader at index 0
abbrev pub IsDefaultLogId : {C : Type 0} → (C → Type 0) → LogIdOf C → Type 0
IsDefaultLogId is_default id = is_default id.leader_id × (id.index ≡ 0)
