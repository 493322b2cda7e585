use Rattle.std.specs.Coded.{Coded-set, coded_list}
use Rattle.std.specs.Option.{option_copied}
use Rattle.std.proofs.Common.{List, None, ap, refl, subst, sym, true≢false, ◌∙◌}
use Rattle.raft_members.specs.membership.Members.{members_of}
use Rattle.raft_progress.specs.progress.CountedValue.{IsCounted}
use Rattle.raft_progress.specs.progress.ProgressView.{state}
use Rattle.raft_progress.specs.progress.UpgradeFold.{IsUpgradeFold}
use Rattle.raft_progress.specs.progress.VecProgress.{view}
use Rattle.raft_progress.specs.tracked.Tracked.{tracked_view}
use Rattle.raft_progress.specs.tracked.TrackedState.{has_quorum, is_voter}
use Rattle.raft_progress.proofs.lemmas.progress.SideLemmas.{sides_of_members}
use Rattle.raft_progress.proofs.lemmas.progress.UpdateLemmas.{IsSame-refl}
use Rattle.raft_progress.proofs.lemmas.progress.upgrade.TakeOverLemmas.{folded, new_voters, none_below, taken_over}
use Rattle.raft_progress.proofs.lemmas.progress.upgrade.UpgradeLemmas.{upgraded_none}
use Rattle.raft_progress.proofs.lemmas.tracked.ReadyLemmas.{ready_of}
use Rattle.raft_progress.proofs.lemmas.tracked.TrackedLemmas.{learners_of_fit, ready_upgraded}
use Rattle.raft_progress.proofs.tracked.Tracked.upgrade_unless_below.Goals as goal

pub new-requires-clause-learners_fit : goal.new-requires-clause-learners_fit
new-requires-clause-learners_fit g c =
    learners_of_fit g.NID.PartialEq.eq (members_of g.NID.Ord.cmp c.args.next) c.args.configs c.args.learners.now c.requires.voters
    c.requires.are_learners

pub sides_of-requires-clause-known : goal.sides_of-requires-clause-known
sides_of-requires-clause-known g c κs within =
    (ready_upgraded g.NID.PartialEq.eq g.NID.Ord.cmp g.P.Ord.cmp g.V.ProgressPart.part_of c.args.next c.args.configs c.args.learners.now
    c.requires.voters c.requires.configs c.requires.are_learners g.V.Clone.is_clone c.args.default (λ x. None)
    (view c.in_ok-upgraded-in-None.upgraded) c.in_ok-upgraded-in-None.ensures.ordered
    (upgraded_none g.NID.PartialEq.eq g.V.Clone.is_clone g.V.ProgressPart.part_of (is_voter g.NID.PartialEq.eq c.args.configs)
    c.args.configs c.args.learners.now c.args.default (state g.NID.PartialEq.eq (view c.in_ok-upgraded-in-None.upgraded))
    c.in_ok-upgraded-in-None.ensures.made)).counts_by.known

pub take_over-requires-clause-given_in_order : goal.take_over-requires-clause-given_in_order
take_over-requires-clause-given_in_order g c =
    (ready_of g.met.NID.Eq.laws g.NID.Ord.cmp g.met.P.Ord.total g.V.ProgressPart.part_of
    (Coded-set (coded_list (coded_list g.row.NID.coded))) (tracked_view c.args.self.now) c.args.self.now.ready).ordered

pub take_over-requires-clause-none_falls : goal.take_over-requires-clause-none_falls
take_over-requires-clause-none_falls g c =
    none_below g.met.NID.Eq.laws g.P.Ord.cmp g.V.ProgressPart.part_of g.NID.Ord.cmp g.V.Clone.is_clone (has_quorum g.NID.PartialEq.eq)
    (is_voter g.NID.PartialEq.eq) c.args.configs c.args.learners.now c.args.default (view c.in_ok-upgraded-in-None.upgraded)
    c.in_ok-upgraded-in-None.ensures.made (c.requires.clones_have_the_part c.args.default)
    (state g.NID.PartialEq.eq (view c.args.self.now.progress)).value (c.requires.none c.in-None.is)

pub take_over-requires-clause-voters : goal.take_over-requires-clause-voters
take_over-requires-clause-voters g c =
    new_voters g.met.NID.Eq.laws g.P.Ord.cmp g.V.ProgressPart.part_of g.NID.Ord.cmp g.V.Clone.is_clone (has_quorum g.NID.PartialEq.eq)
    (is_voter g.NID.PartialEq.eq) c.args.configs c.args.learners.now c.args.default (view c.in_ok-upgraded-in-None.upgraded)
    c.in_ok-upgraded-in-None.ensures.made

pub take_over-requires-clause-sides : goal.take_over-requires-clause-sides
take_over-requires-clause-sides g c = λ s is ids ascending known.
    let made = view c.in_ok-upgraded-in-None.upgraded in
    let counts_by =
    (ready_upgraded g.NID.PartialEq.eq g.NID.Ord.cmp g.P.Ord.cmp g.V.ProgressPart.part_of c.args.next c.args.configs c.args.learners.now
    c.requires.voters c.requires.configs c.requires.are_learners g.V.Clone.is_clone c.args.default (λ x. None) made
    c.in_ok-upgraded-in-None.ensures.ordered
    (upgraded_none g.NID.PartialEq.eq g.V.Clone.is_clone g.V.ProgressPart.part_of (is_voter g.NID.PartialEq.eq c.args.configs)
    c.args.configs c.args.learners.now c.args.default (state g.NID.PartialEq.eq made) c.in_ok-upgraded-in-None.ensures.made)).counts_by in
    sides_of_members g.NID.PartialEq.eq g.NID.Ord.cmp c.args.next s.now
    (c.in_ok-sides-in-None.ensures s.now (sym c.as_ref.ensures.value ∙ ap option_copied is)) made.quorum_set counts_by.configs ids
    record { ascending = ascending; known = λ id. known id ∙ counts_by.known id }

pub returns-in-Some-clause-step : goal.returns-in-Some-clause-step
returns-in-Some-clause-step g c = record {
  values = (
    refl,
    (
      c.args.configs,
      c.args.learners.now,
      c.requires.configs,
      c.requires.are_learners,
      (
        learners_of_fit g.NID.PartialEq.eq (members_of g.NID.Ord.cmp c.args.next) c.args.configs c.args.learners.now c.requires.voters
            c.requires.are_learners,
        c.requires.some c.in-Some.id c.in-Some.is,
        IsSame-refl (state g.NID.PartialEq.eq (view c.args.self.now.progress)),
      ),
    ),
  );
  answered = record { refused = λ r. refl; done = λ r. absurd (true≢false r); tells = tt };
}

pub returns-in_ok-take_over-in-None-clause-step : goal.returns-in_ok-take_over-in-None-clause-step
returns-in_ok-take_over-in-None-clause-step g c =
    let old = c.args.self.now.progress in
    let made = view c.in_ok-upgraded-in-None.upgraded in
    let new = view c.take_over.new.self in
    let ordered = (ready_of g.met.NID.Eq.laws g.NID.Ord.cmp g.met.P.Ord.total g.V.ProgressPart.part_of
    (Coded-set (coded_list (coded_list g.row.NID.coded))) (tracked_view c.args.self.now) c.args.self.now.ready).ordered in
    record {
      values = (
        refl,
        (
          c.args.configs,
          c.args.learners.now,
          c.requires.configs,
          c.requires.are_learners,
          (
            learners_of_fit g.NID.PartialEq.eq (members_of g.NID.Ord.cmp c.args.next) c.args.configs c.args.learners.now c.requires.voters
                c.requires.are_learners,
            c.requires.none c.in-None.is,
            taken_over g.met.NID.Eq.laws g.P.Ord.cmp g.V.ProgressPart.part_of g.NID.Ord.cmp g.V.Clone.is_clone
                (has_quorum g.NID.PartialEq.eq) (is_voter g.NID.PartialEq.eq) c.args.configs c.args.learners.now c.args.default made
                old.stat old.entries.items ordered.distinct c.in_ok-upgraded-in-None.ensures.made
                c.in_ok-upgraded-in-None.ensures.entries c.in_ok-upgraded-in-None.ensures.granted new
                c.in_ok-take_over-in-None.ensures.takes_over,
            subst (λ (p : g.row.P.Denot). IsCounted g.P.Ord.cmp g.V.ProgressPart.part_of (has_quorum g.NID.PartialEq.eq)
                (state g.NID.PartialEq.eq new) p) (sym c.granted.ensures) c.in_ok-take_over-in-None.ensures.ordered.counted,
          ),
        ),
      );
      answered = record {
        refused = λ r. absurd (true≢false (sym r));
        done = λ r. record {
          configs = c.args.configs;
          has_configs = c.requires.configs;
          fold = subst (λ (ls : List g.row.NID.Denot). IsUpgradeFold g.NID.PartialEq.eq g.NID.Ord.cmp g.P.Ord.cmp
              g.V.ProgressPart.part_of g.V.Clone.is_clone (has_quorum g.NID.PartialEq.eq) (is_voter g.NID.PartialEq.eq) (view old)
              c.args.configs ls c.args.default new) c.requires.learners
              (folded g.met.NID.Eq.laws g.P.Ord.cmp g.V.ProgressPart.part_of g.NID.Ord.cmp g.V.Clone.is_clone
              (has_quorum g.NID.PartialEq.eq) (is_voter g.NID.PartialEq.eq) c.args.configs c.args.learners.now c.args.default made
              old.stat old.entries.items ordered.distinct c.in_ok-upgraded-in-None.ensures.made
              c.in_ok-upgraded-in-None.ensures.entries c.in_ok-upgraded-in-None.ensures.granted new
              c.in_ok-take_over-in-None.ensures.takes_over);
        };
        tells = c.granted.ensures;
      };
    }

pub invariant_of-self : goal.invariant_of-self
invariant_of-self g c =
    let old = c.args.self.now.progress in
    let made = view c.in_ok-upgraded-in-None.upgraded in
    let new = view c.take_over.new.self in
    let ordered = (ready_of g.met.NID.Eq.laws g.NID.Ord.cmp g.met.P.Ord.total g.V.ProgressPart.part_of
    (Coded-set (coded_list (coded_list g.row.NID.coded))) (tracked_view c.args.self.now) c.args.self.now.ready).ordered in
    record {
      ready = ∣
          ready_upgraded g.NID.PartialEq.eq g.NID.Ord.cmp g.P.Ord.cmp g.V.ProgressPart.part_of c.args.next c.args.configs
          c.args.learners.now c.requires.voters c.requires.configs c.requires.are_learners g.V.Clone.is_clone c.args.default
          (state g.NID.PartialEq.eq (view old)).value new c.in_ok-take_over-in-None.ensures.ordered
          (taken_over g.met.NID.Eq.laws g.P.Ord.cmp g.V.ProgressPart.part_of g.NID.Ord.cmp g.V.Clone.is_clone
          (has_quorum g.NID.PartialEq.eq) (is_voter g.NID.PartialEq.eq) c.args.configs c.args.learners.now c.args.default made
          old.stat old.entries.items ordered.distinct c.in_ok-upgraded-in-None.ensures.made
          c.in_ok-upgraded-in-None.ensures.entries c.in_ok-upgraded-in-None.ensures.granted new
          c.in_ok-take_over-in-None.ensures.takes_over)
          ∣₁;
      sides_fit = c.in_ok-sides-in-None.ensures;
    }
