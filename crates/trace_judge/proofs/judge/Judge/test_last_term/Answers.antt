use Rattle.std.specs.Prelude.{IfSome, codes}
use Rattle.std.proofs.Common.{Option, Some, ap, inr, subst, sym, ℕ, ◌≡◌, ◌∙◌}
use Rattle.serde_json.specs.View.{view}
use Rattle.safety_laws.specs.Log.{Entry}
use Rattle.trace_judge.specs.Fields.{number_in}
use Rattle.trace_judge.proofs.judge.Judge.test_last_term.Goals as goal

pub returns-then-entry-last_term : goal.returns-then-entry-last_term
returns-then-entry-last_term c = λ es keeps.
    let d = view c.args.value.now in
    let found = sym (c.server_entry.ensures keeps.exact es keeps.keeps) ∙ c.in-Some-server_entry.is in
    let term = sym c.if-entry-last_term.true ∙ ap (λ e. e.term) c.entry.view_is in
    rw c.in-Restarted.is (inr (subst
    (λ (o : Option (Entry ℕ ℕ)). IfSome o (λ e. number_in (codes "last_term") d ≡ Some e.term)) (sym found)
    (sym c.number.ensures ∙ c.in-Some.is ∙ ap Some term)))

pub returns-in_default-server_entry : goal.returns-in_default-server_entry
returns-in_default-server_entry c = λ es keeps.
    let d = view c.args.value.now in
    let none = sym (c.server_entry.ensures keeps.exact es keeps.keeps) ∙ c.in_default-server_entry.is in
    rw c.in-Restarted.is (inr (subst
    (λ (o : Option (Entry ℕ ℕ)). IfSome o (λ e. number_in (codes "last_term") d ≡ Some e.term)) (sym none) tt))
