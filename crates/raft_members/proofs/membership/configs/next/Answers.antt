use Rattle.std.proofs.Common.{[], ◌∷◌, sym, ◌∙◌, ap}
use Rattle.std.specs.Cmp.Lexicographic.{pointwise}
use Rattle.raft_members.proofs.lemmas.membership.MappedLemmas.{list_any-map, last-map, last_none-map}
use Rattle.raft_members.proofs.lemmas.quorum.NextLemmas.{next_if_has, next_if_lacks, next_if_none}
use Rattle.raft_members.proofs.membership.configs.next.Goals.{in_default-via-in-Some+else-not-has_config, in_default-via-in_default}
use Rattle.raft_members.proofs.membership.configs.next.Goals as goal

pub returns-in_ok-vec-in-Some : goal.returns-in_ok-vec-in-Some
returns-in_ok-vec-in-Some g c =
    let has = list_any-map (λ s. s.keys) (λ d. pointwise g.ID.PartialEq.eq d c.args.goal.keys) c.args.configs.now in
    rw c.in_ok-vec-in-Some.ensures.items (ap (λ k. k ∷ c.args.goal.keys ∷ []) c.in_ok-last-in-Some.ensures
    ∙ sym (next_if_lacks (pointwise g.ID.PartialEq.eq) _ _ _ (has ∙ sym c.if-not-has_config.ensures)
    (last-map (λ s. s.keys) c.args.configs.now c.in-Some.last.now c.in-Some.ensures.value)))

pub returns-in_ok-vec-in_default : goal.returns-in_ok-vec-in_default
returns-in_ok-vec-in_default g c =
    let has = list_any-map (λ s. s.keys) (λ d. pointwise g.ID.PartialEq.eq d c.args.goal.keys) c.args.configs.now in
    rw c.in_ok-vec-in_default.ensures.items (elim c.in_default.branch [
      | in_default-via-in-Some+else-not-has_config w ↦
          sym (next_if_has (pointwise g.ID.PartialEq.eq) _ _ (has ∙ sym w.if-not-has_config.ensures))
      | in_default-via-in_default w ↦
          sym (next_if_none (pointwise g.ID.PartialEq.eq) _ _ (last_none-map (λ s. s.keys) c.args.configs.now w.in_default.ensures.value))
    ])
