use Rattle.std.proofs.Common.{ap, refl}
use Rattle.trace_checker.specs.Checker.{kept_by}
use Rattle.trace_checker.proofs.lemmas.LearnLemmas.{grown, unchanged}
use Rattle.trace_checker.proofs.checker.learn.Checker+T+N+D+Memberships+N+D.learn.Goals as goal

pub returns-in_err-hold-clause-keeps : goal.returns-in_err-hold-clause-keeps
returns-in_err-hold-clause-keeps g c =
    let old = c.args.self.now.configs in
    let new = c.hold.new.self in
    λ exact es keeps. unchanged c.args.self.now.counting g.T.Term.rank g.T.PartialEq.eq g.N.PartialEq.eq g.D.PartialEq.eq
    (λ q. q.items) (λ v. v.items)
    old.initial.items new.initial.items old.held.items new.held.items (ap (λ v. v.items) c.in_err-hold.ensures.initial)
    c.in_err-hold.ensures.err es (kept_by c.args.self.now) keeps

pub returns-clause-keeps : goal.returns-clause-keeps
returns-clause-keeps g c =
    let old = c.args.self.now.configs in
    let new = c.hold.new.self in
    λ exact es keeps. grown c.args.self.now.counting g.T.Term.rank g.T.PartialEq.eq g.N.PartialEq.eq g.D.PartialEq.eq (λ q. q.items)
    (λ v. v.items)
    old.initial.items old.held.items c.args.content c.args.configs new.initial.items new.held.items
    (ap (λ v. v.items) c.in_ok-hold.ensures.initial) c.in_ok-hold.ensures.held es (kept_by c.args.self.now)
    (c.if-has_content.ensures.no refl) keeps
