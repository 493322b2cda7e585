use Rattle.std.proofs.Common.{List, Some, ap, sym, ◌∙◌, arith}
use Rattle.serde_json.specs.View.{items_view}
use Rattle.serde_json.specs.declared.value.Value.{Value}
use Rattle.trace_judge.specs.Fields.{IsEntry}
use Rattle.trace_judge.specs.Inner.Table.{numbering}
use Rattle.trace_judge.proofs.lemmas.FieldLemmas.{say_all, say_more, say_none}
use Rattle.trace_judge.proofs.field.entries.Goals as goal

pub loop-item-init : goal.loop-item-init
loop-item-init c =
    let number_of = numbering c.args.names.now in
    say_none (IsEntry number_of) c.deref-item-items.result.now c.new-entries.result.items c.new-entries.ensures.items

pub loop-item-preserved : goal.loop-item-preserved
loop-item-preserved c =
    let number_of = numbering c.args.names.now in
    say_more (IsEntry number_of) c.deref-item-items.result.now c.loop-item.item-index c.loop-item.entries.items c.push.new.self.items
    c.item-item.result c.in-Some-entry.entry (omega arith) c.item-item.is (c.in-Some-entry.ensures) c.in_ok-push.ensures.items
    c.loop-item.invariant

pub returns : goal.returns
returns c =
    let number_of = numbering c.args.names.now in (
      items_view c.deref-item-items.result.now,
      sym c.in-Some.ensures ∙ ap (λ (l : List Value). Some (items_view l)) (sym c.deref-item-items.ensures.value),
      say_all (IsEntry number_of) c.deref-item-items.result.now c.loop-item.item-index c.loop-item.entries.items c.loop-item-test.false
          c.loop-item.invariant,
    )
