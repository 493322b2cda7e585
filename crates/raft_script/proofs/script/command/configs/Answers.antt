use Rattle.std.proofs.Common.{nat_eq, ◌==◌, [], ◌∷◌, rules, tests, All, Bor, List, ℕ, sym, ap, subst, ◌∙◌, map}
use Rattle.std.specs.Prelude.{Bool, ◌++◌, IsErrOf, if◌then◌else◌, is_ok}
use Rattle.std.proofs.lemmas.Iterator.Consumers.{YieldsList-turn, YieldsList-end}
use Rattle.std.proofs.lemmas.Iterator.Splits.{YieldsList-from_slice_split}
use Rattle.std.specs.List.{AllZip}
use Rattle.std.specs.Cmp.Lexicographic.{pointwise}
use Rattle.std.proofs.lemmas.List.{map-append}
use Rattle.std.proofs.lemmas.List.Elements.{All-push}
use Rattle.raft_script.specs.Word.{HasNumbersOf, IsList}
use Rattle.raft_script.specs.declared.script.command.LineError.TheVariants.{BadLine}
use Rattle.raft_script.proofs.lemmas.command.ListLemmas.{lists_of_other, not_all, zip_pushed}
use Rattle.raft_script.proofs.script.command.configs.Goals as goal

pub returns-in_err-config-clause-bad_line : goal.returns-in_err-config-clause-bad_line
returns-in_err-config-clause-bad_line c bad configs =
    let bad_list : IsErrOf c.list.result BadLine = search rules in
    let chain = YieldsList-from_slice_split _ (λ byte. byte == 47) c.args.word.now (cc) (cc) (cc) (λ x r q k. search (rules, tests)) in
    let turn = YieldsList-turn chain c.loop-part.yielded _ c.loop-part.yielded_by _ _ c.in-Some.part c.in-Some.is c.next.ensures.steps in
    not_all IsList _ _ c.in-Some.part.now turn.0 turn.1 (c.list.ensures.bad_line bad_list)
    (subst (All IsList) (lists_of_other c.args.word.now (c.if-eq.ensures ∙ ap (pointwise nat_eq c.args.word.now) c.as_slice.ensures))
    configs)

pub loop-part-preserved : goal.loop-part-preserved
loop-part-preserved c =
    let words = map (λ (part : Bor (List ℕ)). part.now) c.loop-part.yielded in
    let now = map-append (λ (part : Bor (List ℕ)). part.now) c.loop-part.yielded (c.in-Some.part ∷ []) in
    let pushed = c.push.ensures.items ∙ ap
    (λ (b : Bool). if b then c.loop-part.configs.items ++ c.in_ok-config.config ∷ [] else c.loop-part.configs.items)
    (sym c.map_err.ensures.variant ∙ ap is_ok c.in_ok-map_err.was) in
    record {
      lists = subst (All IsList) (sym now)
          (All-push IsList words c.in-Some.part.now c.loop-part.invariant.lists c.in_ok-config.ensures.list.0);
      configs = zip_pushed HasNumbersOf c.loop-part.configs.items _ words _ c.in_ok-config.config c.in-Some.part.now pushed now
          c.loop-part.invariant.configs c.in_ok-config.ensures.list.1;
    }

pub returns-clause-configs : goal.returns-clause-configs
returns-clause-configs c =
    let chain = YieldsList-from_slice_split _ (λ byte. byte == 47) c.args.word.now (cc) (cc) (cc) (λ x r q k. search (rules, tests)) in
    let end = YieldsList-end chain c.loop-part.yielded _ c.loop-part.yielded_by _ _ c.in-None.is c.next.ensures.steps in
    let all = end.0 ∙ sym (lists_of_other c.args.word.now (c.if-eq.ensures ∙ ap (pointwise nat_eq c.args.word.now) c.as_slice.ensures)) in (
      subst (All IsList) all c.loop-part.invariant.lists,
      subst (AllZip HasNumbersOf c.loop-part.configs.items) all
          c.loop-part.invariant.configs,
    )
