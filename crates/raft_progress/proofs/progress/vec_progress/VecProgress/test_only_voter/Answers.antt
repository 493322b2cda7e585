use Rattle.std.specs.List.{IsDistinct}
use Rattle.std.specs.Set.{is_member}
use Rattle.std.proofs.Common.{arith, ap, refl, subst, true≢false, ◌∙◌, ◌≡◌, ◌≤◌, ◌<◌, ◌∷◌, [], length, set, sym, take, List}
use Rattle.std.proofs.lemmas.Option.{slice_get_read}
use Rattle.raft_progress.specs.progress.VecProgress.{view}
use Rattle.raft_progress.proofs.lemmas.progress.entries.ShortPrefixLemmas.{only_voter_granted}
use Rattle.raft_progress.proofs.progress.vec_progress.VecProgress.test_only_voter.Goals as goal

first_set : {X : Type 0} (xs : List X) (x : X) → 1 ≤ length xs → take 1 (set xs 0 x) ≡ x ∷ []
first_set [] x l = absurd (omega arith)
first_set (y ∷ ys) x l = refl

pub returns-then-is_quorum : goal.returns-then-is_quorum
returns-then-is_quorum g c =
    let p = c.args.self.now in
    let e = c.index-only.result.now in
    let within : 0 < length p.entries.items = let fit = p.voters_fit in let one = c.requires.only in omega arith in
    let scratch : 1 ≤ length p.scratch.items = let fit = p.scratch_fits in let one = c.requires.only in omega arith in
    let at = slice_get_read p.entries.items (length p.entries.items) 0 e refl within c.index-only.ensures in
    let asked = ap (take 1) c.deref.ensures.value ∙ first_set p.scratch.items e.0 scratch in
    only_voter_granted g.ID.PartialEq.eq g.P.Ord.cmp g.V.ProgressPart.part_of g.QS.QuorumSet.has_quorum (view p) _ c.requires.only e at
    (c.requires.leads e at) c.is_quorum.result
    (subst (λ (ks : List g.row.ID.Denot). IsDistinct g.ID.PartialEq.eq ks
    → c.is_quorum.result ≡ g.QS.QuorumSet.has_quorum p.quorum_set (is_member g.ID.PartialEq.eq ks)) asked c.is_quorum.ensures.quorum)
    record { quorum_set = refl; voter_count = refl; default_part = refl; updates = refl } refl refl c.saturating_add-self.ensures
    (λ failed. absurd (true≢false (sym c.if-is_quorum.true ∙ failed)))
    (λ passed. c.part-self.ensures)

pub returns-else-is_quorum : goal.returns-else-is_quorum
returns-else-is_quorum g c =
    let p = c.args.self.now in
    let e = c.index-only.result.now in
    let within : 0 < length p.entries.items = let fit = p.voters_fit in let one = c.requires.only in omega arith in
    let scratch : 1 ≤ length p.scratch.items = let fit = p.scratch_fits in let one = c.requires.only in omega arith in
    let at = slice_get_read p.entries.items (length p.entries.items) 0 e refl within c.index-only.ensures in
    let asked = ap (take 1) c.deref.ensures.value ∙ first_set p.scratch.items e.0 scratch in
    only_voter_granted g.ID.PartialEq.eq g.P.Ord.cmp g.V.ProgressPart.part_of g.QS.QuorumSet.has_quorum (view p) _ c.requires.only e at
    (c.requires.leads e at) c.is_quorum.result
    (subst (λ (ks : List g.row.ID.Denot). IsDistinct g.ID.PartialEq.eq ks
    → c.is_quorum.result ≡ g.QS.QuorumSet.has_quorum p.quorum_set (is_member g.ID.PartialEq.eq ks)) asked c.is_quorum.ensures.quorum)
    record { quorum_set = refl; voter_count = refl; default_part = refl; updates = refl } refl refl c.saturating_add-self.ensures
    (λ failed. refl)
    (λ passed. absurd (true≢false (sym passed ∙ c.if-is_quorum.false)))
