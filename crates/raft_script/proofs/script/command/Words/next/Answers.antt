use Rattle.std.proofs.Common.{rules, tests, ◌==◌, ◌-◌, List, ℕ, refl, length, take, drop}
use Rattle.std.specs.Prelude.{not}
use Rattle.std.proofs.lemmas.Iterator.{YieldsList-from_slice}
use Rattle.std.proofs.lemmas.Iterator.Search.{position_from_yields_List}
use Rattle.raft_script.proofs.lemmas.command.WordLemmas.{no_words, one_word}
use Rattle.raft_script.proofs.script.command.Words.next.Goals as goal

pub returns-in_err-start : goal.returns-in_err-start
returns-in_err-start c =
    let place = position_from_yields_List (λ b. not (b == 32)) _ _ c.position.result c.position.ensures.ran
    (YieldsList-from_slice c.args.self.now.rest.now (cc)) (λ x b q k. search (rules, tests)) in
    rw c.from_residual.ensures (no_words c.args.self.now.rest.now c.position.result place c.in_err-start.was)

pub returns : goal.returns
returns c =
    let place = position_from_yields_List (λ b. not (b == 32)) _ _ c.position.result c.position.ensures.ran
    (YieldsList-from_slice c.args.self.now.rest.now (cc)) (λ x b q k. search (rules, tests)) in
    let from : List ℕ = take (length c.args.self.now.rest.now - c.in_ok-start.start) (drop c.in_ok-start.start c.args.self.now.rest.now) in
    let size = position_from_yields_List (λ b. b == 32) _ _ c.position-2.result c.position-2.ensures.ran (YieldsList-from_slice from (cc))
    (λ x b q k. search (rules, tests)) in
    one_word c.args.self.now.rest.now from c.position.result c.in_ok-start.start c.position-2.result c.unwrap_or-end.result place
    c.in_ok-start.was refl size c.unwrap_or-end.ensures
