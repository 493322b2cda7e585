-- What servers may apply agrees.
use Rattle.std.specs.Prelude.{◌≡◌, ℕ, List, length, take}
use Rattle.std.proofs.Common.{sym, ap, ◌∙◌}
use Rattle.std.proofs.lemmas.List.{length-take-le}
use Rattle.safety_laws.specs.Events.{Event, History, log_after}
use Rattle.safety_laws.specs.Facts.{Counting}
use Rattle.safety_laws.specs.Rules.{FollowsRaftBy}
use Rattle.safety_laws.specs.Safety.{IsSafeBy}
use Rattle.safety_laws.specs.Apply.{MayApplyBy, StateMachineSafetyBy}
use Rattle.safety_laws.proofs.lemmas.PrefixLemmas.{take_prefix}
use Rattle.safety_laws.proofs.lemmas.SafetyLemmas.{prefixes_agree}

module _ {T ID D : Type 0} (rank : T → ℕ) (counting : Counting T ID D)
    (h : History T ID D) (lawful : FollowsRaftBy rank counting h) (safe : IsSafeBy rank counting h) where
  -- what a server may apply is what the leader has
  pub applied : (es : List (Event T ID D)) (k : ℕ) → (x : MayApplyBy rank counting h es k)
      → take k (log_after es) ≡ take k (h.leader_log x.term x.leader)
  applied es k x =
      let long : length (take k (h.leader_log x.term x.leader)) ≡ k =
      length-take-le k (h.leader_log x.term x.leader) x.written in
      sym (ap (λ (n : ℕ). take n (log_after es)) long) ∙ take_prefix x.in_log

  pub state_machines_agree : StateMachineSafetyBy rank counting h
  state_machines_agree s r es fs i k ok ok' x y =
      rw (applied es i x, applied fs k y)
      (prefixes_agree rank counting h lawful safe.election_safety safe.leader_completeness
      x.known.in_term y.known.in_term x.known.by_leader y.known.by_leader x.known.committed_to
      y.known.committed_to x.known.counted_at y.known.counted_at
      (take i (h.leader_log x.term x.leader)) (take k (h.leader_log y.term y.leader))
      x.known.committed y.known.committed x.known.is y.known.is)
