use Rattle.std.proofs.Common.{◌≡◌, ◌∙◌, Bool, List, ◌∷◌, false, not, ap, map, refl, sym}
use Rattle.std.specs.List.{filter}
use Rattle.raft_members.specs.quorum.Majority.{is_voter_of}
use Rattle.raft_members.proofs.membership.learner_ids.LearnerIdsIterator.next.Goals as goal

-- an element that does not pass is left out
left_out : {X : Type 0} (p : X → Bool) (x : X) (xs : List X) → p x ≡ false → filter p (x ∷ xs) ≡ filter p xs
left_out p x xs h = rw h refl

pub loop-id-preserved : goal.loop-id-preserved
loop-id-preserved g c = (
  c.loop-id.invariant.0,
  sym (left_out (λ k. not (is_voter_of g.NID.PartialEq.eq (map (λ s. s.keys) c.args.self.now.configs.now) k)) c.in-Some.id.now
      c.next.new.self
      (ap not (ap (λ q. is_voter_of g.NID.PartialEq.eq (map (λ s. s.keys) q.now) c.in-Some.id.now) (sym c.loop-id.invariant.0)
      ∙ sym c.has_id.ensures ∙ c.if-not-has_id.false)))
      ∙ ap (filter (λ k. not (is_voter_of g.NID.PartialEq.eq (map (λ s. s.keys) c.args.self.now.configs.now) k)))
      (sym c.in-Some.ensures.steps)
      ∙ c.loop-id.invariant.1,
)
