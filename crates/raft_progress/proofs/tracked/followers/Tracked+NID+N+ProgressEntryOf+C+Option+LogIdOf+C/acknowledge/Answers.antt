use Rattle.std.specs.Coded.{Coded-set, coded_list}
use Rattle.std.specs.Option.{option_cmp, option_copied}
use Rattle.std.proofs.Common.{ap, refl, sym, ◌∙◌}
use Rattle.raft_base.specs.LogId.{log_id_cmp}
use Rattle.raft_base.specs.LogIdLawful.{optional-log_id_cmp-total}
use Rattle.raft_progress.specs.entry.EntryTable.{entry_after_ack}
use Rattle.raft_progress.specs.progress.VecProgress.{view}
use Rattle.raft_progress.specs.tracked.Tracked.{tracked_view}
use Rattle.raft_progress.specs.declared.entry.ProgressEntryOf.{ProgressEntryOf}
use Rattle.raft_progress.proofs.lemmas.progress.SideLemmas.{sides_ready}
use Rattle.raft_progress.proofs.lemmas.tracked.FollowerLemmas.{acknowledged, ready_acknowledged}
use Rattle.raft_progress.proofs.lemmas.tracked.ReadyLemmas.{has_voters_of_set, ready_of}
use Rattle.raft_progress.proofs.tracked.followers.Tracked+NID+N+ProgressEntryOf+C+Option+LogIdOf+C.acknowledge.Goals as goal

pub acknowledge-requires-clause-ordered : goal.acknowledge-requires-clause-ordered
acknowledge-requires-clause-ordered g c = (ready_of g.met.NID.Eq.laws g.NID.Ord.cmp (optional-log_id_cmp-total g.met.C.Ord.total)
    (λ (e : ProgressEntryOf g.row.C.Denot). e.matching) (Coded-set (coded_list (coded_list g.row.NID.coded)))
    (tracked_view c.args.self.now) c.args.self.now.ready).ordered

pub acknowledge-requires-clause-voters : goal.acknowledge-requires-clause-voters
acknowledge-requires-clause-voters g c = has_voters_of_set (tracked_view c.args.self.now)
    (ready_of g.met.NID.Eq.laws g.NID.Ord.cmp (optional-log_id_cmp-total g.met.C.Ord.total)
    (λ (e : ProgressEntryOf g.row.C.Denot). e.matching) (Coded-set (coded_list (coded_list g.row.NID.coded)))
    (tracked_view c.args.self.now) c.args.self.now.ready)

pub acknowledge-requires-clause-sides : goal.acknowledge-requires-clause-sides
acknowledge-requires-clause-sides g c = λ s is fresh.
    let t = c.args.self.now in
    sides_ready g.met.NID.Eq.laws g.NID.Ord.cmp (option_cmp (log_id_cmp g.C.Ord.cmp))
    (λ (e : ProgressEntryOf g.row.C.Denot). e.matching) (tracked_view t)
    (ready_of g.met.NID.Eq.laws g.NID.Ord.cmp (optional-log_id_cmp-total g.met.C.Ord.total)
    (λ (e : ProgressEntryOf g.row.C.Denot). e.matching) (Coded-set (coded_list (coded_list g.row.NID.coded)))
    (tracked_view t) t.ready)
    t.progress.positions.sorted.items t.progress.positions.ascending (t.progress.agree fresh) s.now
    (t.sides_fit s.now (sym c.as_ref.ensures.value ∙ ap option_copied is))

pub invariant_of-self : goal.invariant_of-self
invariant_of-self g c = record {
  ready = ∣
      ready_acknowledged g.met.NID.Eq.laws g.NID.Ord.cmp (optional-log_id_cmp-total g.met.C.Ord.total)
      (λ (e : ProgressEntryOf g.row.C.Denot). e.matching) (Coded-set (coded_list (coded_list g.row.NID.coded)))
      (tracked_view c.args.self.now)
      (record { membership = c.args.self.now.membership; progress = view c.acknowledge.new.self }) c.args.self.now.ready c.args.id.now
      (λ entry. entry_after_ack g.C.Ord.cmp entry c.args.request_id c.args.matching) refl c.acknowledge.ensures.ordered
      c.acknowledge.result c.acknowledge.ensures.step
      ∣₁;
  sides_fit = c.args.self.now.sides_fit;
}

pub returns : goal.returns
returns g c =
    acknowledged g.met.NID.Eq.laws g.NID.Ord.cmp (optional-log_id_cmp-total g.met.C.Ord.total)
    (λ (e : ProgressEntryOf g.row.C.Denot). e.matching) (Coded-set (coded_list (coded_list g.row.NID.coded)))
    (tracked_view c.args.self.now)
    (record { membership = c.args.self.now.membership; progress = view c.acknowledge.new.self }) c.args.self.now.ready c.args.id.now
    (λ entry. entry_after_ack g.C.Ord.cmp entry c.args.request_id c.args.matching) refl
    c.acknowledge.result c.acknowledge.ensures.step
