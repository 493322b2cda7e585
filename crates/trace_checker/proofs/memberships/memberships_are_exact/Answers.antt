use Rattle.std.proofs.Common.{map}
use Rattle.trace_checker.specs.Memberships.{configs_of}
use Rattle.trace_checker.proofs.lemmas.MembershipsLemmas.{known_intersect}
use Rattle.trace_checker.proofs.memberships.memberships_are_exact.Goals as goal

pub returns : goal.returns
returns g c = λ same_terms same_ids same_contents.
    let initial = c.args.memberships.now.initial.items in
    let held = map (λ p. (p.0, p.1.items)) c.args.memberships.now.held.items in
    record {
      same_term = same_terms;
      term_itself = λ x. g.met.T.Eq.laws.refl x;
      same_id = same_ids;
      id_itself = λ x. g.met.N.Eq.laws.refl x;
      same_content = same_contents;
      content_itself = λ x. g.met.D.Eq.laws.refl x;
      intersect = λ a b shared s t in_a in_b.
          known_intersect g.met.N.Eq.laws same_ids (λ q. q.items) (configs_of g.D.PartialEq.eq initial held a)
          (configs_of g.D.PartialEq.eq initial held b) shared s t in_a in_b;
    }
