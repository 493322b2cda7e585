use Rattle.std.proofs.Common.{ap, arith, sym, ◌∙◌, ◌≤◌, length, subst}
use Rattle.std.specs.Map.{keys_of}
use Rattle.std.proofs.lemmas.Map.Entries.{length-keys_of}
use Rattle.raft_progress.specs.Inner.Positions.{position_in}
use Rattle.raft_progress.proofs.lemmas.progress.positions.PositionsLemmas.{before_passed, found_after, passed_length, position_ranked, same_unless_passed}
use Rattle.raft_progress.proofs.progress.vec_progress.VecProgress.move_voter_up.Goals as goal

pub record_move-requires : goal.record_move-requires
record_move-requires g c =
    let f = c.args.self.now.voters_fit in
    let l = c.requires in
    record {
      ascending = omega arith;
      within = λ fresh. position_ranked g.met.ID.Eq.laws c.args.self.now.positions.sorted.items c.args.self.now.positions.ranks.items
          c.args.self.now.positions.inverse (keys_of c.args.self.now.entries.items) c.args.position
          (rw (length-keys_of c.args.self.now.entries.items) (omega arith)) (c.args.self.now.agree fresh);
    }

pub invariant_of-self : goal.invariant_of-self
invariant_of-self g c =
    let p = c.move_up-to.ensures.passes in
    let new = c.move_up-to.new.entries.items in
    let old = position_in g.ID.PartialEq.eq c.args.self.now.positions.sorted.items in
    let long = passed_length g.P.Ord.cmp g.V.ProgressPart.part_of c.args.self.now.entries.items c.args.position new c.move_up-to.result p in
    record {
      voters_fit = subst (λ n. c.args.self.now.voter_count ≤ n) (sym long) c.args.self.now.voters_fit;
      scratch_fits = c.args.self.now.scratch_fits;
      agree = λ fresh.
          let was = sym c.record_move.ensures.stale ∙ fresh in
          found_after g.met.ID.Eq.laws (keys_of new) c.move_up-to.result c.args.position (omega arith) old
          (before_passed g.met.ID.Eq.laws g.P.Ord.cmp g.V.ProgressPart.part_of c.args.self.now.entries.items c.args.position new
          c.move_up-to.result p old (c.args.self.now.agree was))
          (position_in g.ID.PartialEq.eq c.record_move.new.self.sorted.items) (c.record_move.ensures.shifted was);
    }

pub invariant_of-self-else-to-position : goal.invariant_of-self-else-to-position
invariant_of-self-else-to-position g c =
    let same = same_unless_passed g.P.Ord.cmp g.V.ProgressPart.part_of c.args.self.now.entries.items c.args.position
    c.move_up-to.new.entries.items c.move_up-to.result c.move_up-to.ensures.passes c.if-to-position.false in
    record {
      voters_fit = subst (λ n. c.args.self.now.voter_count ≤ n) (sym (ap length same)) c.args.self.now.voters_fit;
      scratch_fits = c.args.self.now.scratch_fits;
      agree = λ fresh. rw same (c.args.self.now.agree fresh);
    }
