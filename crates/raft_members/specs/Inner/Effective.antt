-- What an effective membership stores beside its stored membership.
use Rattle.std.specs.Prelude.{◌≡◌, Bool, List, length, Option, None}
use Rattle.std.specs.BTreeSet.{BTreeSet}
use Rattle.std.specs.Option.{ForSome}
use Rattle.std.specs.Set.{is_member}
use Rattle.raft_members.specs.quorum.Majority.{is_voter_of}
use Rattle.raft_members.specs.membership.Members.{MemberList}

-- the lists are the configs of the membership, and the set has its voters; if there is no set,
-- there is a single config
pub record AgreesWith {K N : Type 0} (eq : K → K → Bool) (m : MemberList K N)
    (lists : List (List K)) (kept : Option (BTreeSet K)) : Type 0 where
  pub configs : lists ≡ m.configs
  pub some : ForSome kept (λ set. (id : K) →
      is_member eq set.keys id ≡ is_voter_of eq m.configs id)
  pub none : kept ≡ None → length m.configs ≡ 1
