use Rattle.std.proofs.Common.{List, Some, ap, sym, ◌∙◌, arith}
use Rattle.serde_json.specs.View.{items_view}
use Rattle.serde_json.specs.declared.value.Value.{Value}
use Rattle.trace_judge.specs.Inner.Table.{numbering}
use Rattle.trace_judge.specs.Names.{HasNumber}
use Rattle.trace_judge.proofs.lemmas.FieldLemmas.{say_all, say_more, say_none}
use Rattle.trace_judge.proofs.field.config.Goals as goal

pub loop-item-init : goal.loop-item-init
loop-item-init c =
    let number_of = numbering c.args.names.now in
    say_none (HasNumber number_of) c.deref-item-items.result.now c.new-voters.result.items c.new-voters.ensures.items

pub loop-item-preserved : goal.loop-item-preserved
loop-item-preserved c =
    let number_of = numbering c.args.names.now in
    say_more (HasNumber number_of) c.deref-item-items.result.now c.loop-item.item-index c.loop-item.voters.items c.push.new.self.items
    c.item-item.result c.in-Some-number_of.voter (omega arith) c.item-item.is c.in-Some-number_of.ensures c.in_ok-push.ensures.items
    c.loop-item.invariant

pub returns : goal.returns
returns c =
    let number_of = numbering c.args.names.now in (
      items_view c.deref-item-items.result.now,
      sym c.in-Some.ensures ∙ ap (λ (l : List Value). Some (items_view l)) (sym c.deref-item-items.ensures.value),
      say_all (HasNumber number_of) c.deref-item-items.result.now c.loop-item.item-index c.loop-item.voters.items c.loop-item-test.false
          c.loop-item.invariant,
    )
