-- Memberships of the layer as configs of the checker.
use Rattle.std.specs.Prelude.{◌≡◌, ◌+◌, ◌++◌, Bool, not, nat_lt, count_by, if◌then◌else◌, Option, Some, None, List, [], ◌∷◌, length}
use Rattle.std.specs.Global.{Vec}
use Rattle.std.specs.List.{list_any}
use Rattle.std.specs.Set.{is_member}
use Rattle.raft_members.specs.quorum.QuorumSize.{majority_size}

-- memberships, each with the content of its entry, in the order in which they became known
pub record HeldList (N D : Type 0) : Type 0 where
  pub items : List (D × Vec (Vec N))

-- the membership that the entry with a content holds
abbrev pub held_by : {Q D : Type 0} → (D → D → Bool) → D → List (D × List Q) → List Q
held_by same d [] = []
held_by same d (m ∷ held) = if same m.0 d then m.1 else held_by same d held

-- a membership by the content of its entry, or the initial one
abbrev pub configs_of : {Q D : Type 0} → (D → D → Bool) → List Q → List (D × List Q) → Option D → List Q
configs_of same initial held None = initial
configs_of same initial held (Some d) = held_by same d held

-- the last membership is of this content, or there is none
abbrev pub EndsWith : {V D : Type 0} → List (D × V) → Option D → Type 0
EndsWith held None = held ≡ []
EndsWith {V} {D} held (Some d) = (before : List (D × V)) × ((v : V) × (held ≡ before ++ (d, v) ∷ []))

-- any majority of one config and any majority of the other share a server, because they have more
-- servers than both configs together. This is so if the configs have the same servers, or if one of
-- them has the servers of the other and one more
abbrev pub majorities_meet : {K : Type 0} → (K → K → Bool) → List K → List K → Bool
majorities_meet eq config other =
    nat_lt (length config + count_by (λ id. not (is_member eq config id)) other)
    (majority_size config + majority_size other)

-- majorities of a config and of one of these configs share a server. `voters` are those of a config
abbrev pub meets_some : {Q K : Type 0} → (K → K → Bool) → (Q → List K) → List K → List Q → Bool
meets_some eq voters config others = list_any (λ q. majorities_meet eq config (voters q)) others

-- majorities of one of these configs and of one of the others share a server
abbrev pub some_meet : {Q K : Type 0} → (K → K → Bool) → (Q → List K) → List Q → List Q → Bool
some_meet eq voters these others = list_any (λ q. meets_some eq voters (voters q) others) these
