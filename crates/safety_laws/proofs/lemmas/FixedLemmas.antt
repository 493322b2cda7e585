-- If any two quorums intersect, histories are safe.
use Rattle.std.specs.Prelude.{ℕ, Bool, List, take}
use Rattle.safety_laws.specs.Log.{Entry}
use Rattle.safety_laws.specs.Events.{History}
use Rattle.safety_laws.specs.Facts.{appended}
use Rattle.safety_laws.specs.Rules.{FollowsRaft}
use Rattle.safety_laws.specs.Safety.{AllQuorumsIntersect, IsSafe}
use Rattle.safety_laws.proofs.lemmas.ServerLemmas.{voted_once, by_voter}
use Rattle.safety_laws.proofs.lemmas.SafetyLemmas.{safe_by_terms}

module _ {T ID D : Type 0} (rank : T → ℕ) (quorum : List (Entry T D) → (ID → Bool) → Bool) (h : History T ID D)
    (lawful : FollowsRaft rank quorum h) (meet : AllQuorumsIntersect quorum) where
  pub fixed_is_safe : IsSafe rank quorum h
  fixed_is_safe = safe_by_terms rank (appended quorum) h lawful
      (λ u one complete c d x y.
      let (v, in_x, in_y) =
      meet (h.candidate_log u c) (h.candidate_log u d) x.voters y.voters x.is_quorum y.is_quorum in
      voted_once rank (appended quorum) h lawful v u c d (h.events v) (lawful.servers v) (x.have_voted v in_x)
      (y.have_voted v in_y))
      (λ u d one complete el t c n m done lt.
      let (v, has, voted) =
      meet (take m (h.leader_log t c)) (h.candidate_log u d) done.having el.voters done.is_quorum.is_quorum el.is_quorum in
      by_voter rank (appended quorum) h lawful t u c d v n m one complete done lt el (el.have_voted v voted)
      (done.have_acked v has))
