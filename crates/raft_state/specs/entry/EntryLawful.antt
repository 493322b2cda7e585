-- A blank payload stores no membership.
use Rattle.std.specs.Prelude.{◌≡◌, true, None, refl}
use Rattle.raft_state.specs.entry.Entry.{is_blank_payload, payload_membership}
use Rattle.raft_state.specs.declared.entry.payload.EntryPayload.{EntryPayload}
use Rattle.raft_state.specs.declared.entry.payload.EntryPayload.TheVariants.{Blank, Normal, Membership}

pub blank_stores_none : {K N D : Type 0} (p : EntryPayload K N D) → is_blank_payload p ≡ true
    → payload_membership p ≡ None
blank_stores_none Blank h = refl
blank_stores_none (Normal d) h = refl
blank_stores_none (Membership m) h = cc
