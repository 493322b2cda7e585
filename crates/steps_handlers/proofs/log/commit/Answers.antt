use Rattle.std.proofs.Common.{◌≡◌, true, false, refl, rules, sym, ◌∙◌}
use Rattle.raft_base.specs.LogId.{id_lt}
use Rattle.steps_handlers.proofs.lemmas.TakeLemmas.{commit_committed, commit_rest, logged_is}
use Rattle.steps_handlers.proofs.lemmas.WrittenLemmas.{none_risen}
use Rattle.steps_handlers.specs.Inner.Steps.{RefusesCommit}
use Rattle.steps_handlers.specs.declared.error.AppendError.TheVariants.{OutOfMemory}
use Rattle.raft_progress.specs.progress.Comparisons.{OrdMembers}
use Rattle.steps_handlers.proofs.log.commit.Goals as goal

pub returns-then-not-log_id_below-clause-commits : goal.returns-then-not-log_id_below-clause-commits
returns-then-not-log_id_below-clause-commits g c =
    let s = c.args.state.now in
    let not : id_lt g.C.Ord.cmp s.committed c.args.upto ≡ false = sym c.log_id_below.ensures ∙ c.if-not-log_id_below.true in
    record {
      may = rw not refl;
      has = rw not refl;
      ok = rw not refl;
      risen = none_risen g.met.C.Ord.total s.committed s.committed refl;
      rest = refl;
    }

pub returns-then-not-is_logged-clause-refuses : goal.returns-then-not-is_logged-clause-refuses
returns-then-not-is_logged-clause-refuses g c =
    let s = c.args.state.now in
    let below : id_lt g.C.Ord.cmp s.committed c.args.upto ≡ true = sym c.log_id_below.ensures ∙ c.if-not-log_id_below.false in
    record {
      refused = rw below (sym (logged_is g.C.PartialEq.eq s c.args.upto) ∙ sym c.is_logged.ensures ∙ c.if-not-is_logged.true);
      past = below;
      err = refl;
    }

pub returns-then-not-can_commit-clause-refuses : goal.returns-then-not-can_commit-clause-refuses
returns-then-not-can_commit-clause-refuses g c = record {
  refused = sym c.can_commit.ensures ∙ c.if-not-can_commit.true;
  past = sym c.log_id_below.ensures ∙ c.if-not-log_id_below.false;
  err = refl;
}

pub returns-in_err-update_committed-clause-refuses : goal.returns-in_err-update_committed-clause-refuses
returns-in_err-update_committed-clause-refuses g c =
    let ord : OrdMembers g.row.C.Denot = record {
      partial_cmp = g.C.PartialOrd.partial_cmp;
      eq = g.C.PartialEq.eq;
      cmp = g.C.Ord.cmp;
    } in
    let refuses : RefusesCommit ord c.args.upto OutOfMemory c.args.state.now c.update_committed.new.self = record {
      refused = tt;
      past = sym c.log_id_below.ensures ∙ c.if-not-log_id_below.false;
      err = c.in_err-update_committed.ensures.err;
    } in
    search (rules, refuses)

pub returns-clause-commits : goal.returns-clause-commits
returns-clause-commits g c =
    let s = c.args.state.now in
    let new = c.update_committed.new.self in
    let ok = c.in_ok-update_committed.ensures.ok in
    let below : id_lt g.C.Ord.cmp s.committed c.args.upto ≡ true = sym c.log_id_below.ensures ∙ c.if-not-log_id_below.false in
    let now : new.committed ≡ c.args.upto = rw below at (commit_committed g.C.Ord.cmp c.args.upto s new ok) in
    record {
      may = sym c.can_commit.ensures ∙ c.if-not-can_commit.false;
      has = rw below (sym (logged_is g.C.PartialEq.eq s c.args.upto) ∙ sym c.is_logged.ensures ∙ c.if-not-is_logged.false);
      ok = ok;
      risen = rw (now, below) refl;
      rest = commit_rest g.C.Ord.cmp c.args.upto s new ok;
    }
