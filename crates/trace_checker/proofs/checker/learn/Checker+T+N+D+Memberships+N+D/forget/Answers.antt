use Rattle.std.proofs.Common.{ap, refl}
use Rattle.trace_checker.specs.Checker.{kept_by}
use Rattle.trace_checker.proofs.lemmas.LearnLemmas.{shrunk}
use Rattle.trace_checker.proofs.checker.learn.Checker+T+N+D+Memberships+N+D.forget.Goals as goal

pub returns-clause-keeps : goal.returns-clause-keeps
returns-clause-keeps g c =
    let old = c.args.self.now.configs in
    let new = c.remove_last.new.self in
    let last = c.in-Some.ensures in
    λ exact es keeps. shrunk c.args.self.now.counting g.T.Term.rank g.T.PartialEq.eq g.N.PartialEq.eq g.D.PartialEq.eq (λ q. q.items)
    (λ v. v.items)
    old.initial.items last.0 c.in-Some.content last.1.0 new.initial.items new.held.items old.held.items
    (ap (λ v. v.items) c.remove_last.ensures.initial) (c.remove_last.ensures.held last.0 (c.in-Some.content, last.1.0) last.1.1)
    last.1.1 es (kept_by c.args.self.now) (c.if-has_content.ensures.no refl) keeps
