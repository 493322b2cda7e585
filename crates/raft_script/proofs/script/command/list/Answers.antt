use Rattle.std.proofs.Common.{◌≡◌, None, nat_eq, ◌==◌, [], ◌∷◌, rules, tests, arith, All, Bor, List, ℕ, sym, ap, subst, ◌∙◌, map}
use Rattle.std.proofs.lemmas.Iterator.Consumers.{YieldsList-turn, YieldsList-end}
use Rattle.std.proofs.lemmas.Iterator.Splits.{YieldsList-from_slice_split}
use Rattle.std.specs.Cmp.Lexicographic.{pointwise}
use Rattle.std.specs.BTreeMap.{is_at}
use Rattle.std.specs.List.{list_any}
use Rattle.std.specs.Ordering.{nat_cmp}
use Rattle.std.specs.Str.Parse.{digits_value}
use Rattle.std.proofs.lemmas.List.{map-append}
use Rattle.std.proofs.lemmas.List.Elements.{All-nil, All-push}
use Rattle.raft_script.specs.Word.{IsNumber}
use Rattle.raft_script.proofs.lemmas.command.ListLemmas.{one_more_number, parts_of_other, no_number, not_all, number_of, where_ok}
use Rattle.raft_script.proofs.script.command.list.Goals as goal

pub loop-part-init : goal.loop-part-init
loop-part-init c = record { numbers = All-nil IsNumber; has = λ n. ap (list_any (is_at (nat_cmp n))) c.new-numbers.ensures.empty }

pub returns-in_err-number-clause-bad_line : goal.returns-in_err-number-clause-bad_line
returns-in_err-number-clause-bad_line c bad list =
    let none : c.number.result ≡ None = grind arith in
    let chain = YieldsList-from_slice_split _ (λ byte. byte == 44) c.args.word.now (cc) (cc) (cc) (λ x r q k. search (rules, tests)) in
    let turn = YieldsList-turn chain c.loop-part.yielded _ c.loop-part.yielded_by _ _ c.in-Some.part c.in-Some.is c.next.ensures.steps in
    not_all IsNumber _ _ c.in-Some.part.now turn.0 turn.1 (no_number _ _ c.number.ensures none)
    (subst (All IsNumber) (parts_of_other c.args.word.now (c.if-eq.ensures ∙ ap (pointwise nat_eq c.args.word.now) c.as_slice.ensures))
    list)

pub loop-part-preserved : goal.loop-part-preserved
loop-part-preserved c =
    let words = map (λ (part : Bor (List ℕ)). part.now) c.loop-part.yielded in
    let now = map-append (λ (part : Bor (List ℕ)). part.now) c.loop-part.yielded (c.in-Some.part ∷ []) in
    let number = number_of c.in-Some.part.now c.number.result c.in_ok-number.number c.number.ensures (grind arith) in
    let updated = where_ok c.insert.result c.map_err.result c.in_ok-map_err.field-0 _ c.map_err.ensures.variant c.in_ok-map_err.was
    c.insert.ensures.updates in
    record {
      numbers = subst (All IsNumber) (sym now) (All-push IsNumber words c.in-Some.part.now c.loop-part.invariant.numbers number.0);
      has = λ n.
          one_more_number c.in_ok-number.number n _ _ words c.in-Some.part.now (updated.0 n) (c.loop-part.invariant.has n) number.1
          ∙ sym (ap (list_any (λ part. digits_value 10 part == n)) now);
    }

pub returns-clause-list : goal.returns-clause-list
returns-clause-list c =
    let chain = YieldsList-from_slice_split _ (λ byte. byte == 44) c.args.word.now (cc) (cc) (cc) (λ x r q k. search (rules, tests)) in
    let end = YieldsList-end chain c.loop-part.yielded _ c.loop-part.yielded_by _ _ c.in-None.is c.next.ensures.steps in
    let all = end.0 ∙ sym (parts_of_other c.args.word.now (c.if-eq.ensures ∙ ap (pointwise nat_eq c.args.word.now) c.as_slice.ensures)) in (
      subst (All IsNumber) all c.loop-part.invariant.numbers,
      λ n. c.loop-part.invariant.has n
          ∙ ap (list_any (λ part. digits_value 10 part == n)) all,
    )
