use Rattle.std.proofs.Common.{◌≡◌, ◌∙◌, Some, None, true, length, refl, sym, ap, inl, inr, arith}
use Rattle.std.specs.List.{position}
use Rattle.trace_checker.specs.declared.checker.server.Server.{Server}
use Rattle.trace_checker.proofs.lemmas.CheckerCodeLemmas.{none_to_end, place_push, search_ends, search_more}
use Rattle.trace_checker.proofs.checker.server_at.Goals as goal

pub returns-clause-at : goal.returns-clause-at
returns-clause-at g c =
    let p = λ (s : Server g.row.N.Denot). g.N.PartialEq.eq s.id c.args.id in
    let absent : position p c.args.servers.now.items ≡ None =
    none_to_end p c.args.servers.now.items c.loop-i.i (omega arith) c.loop-i.invariant in
    let passes : p c.new.result ≡ true = rw c.new.ensures.id (g.met.N.Eq.laws.refl c.args.id) in
    let len : length c.args.servers.now.items ≡ c.len-i.result = omega arith in (
      rw c.in_ok-push.ensures.items
          (place_push p c.args.servers.now.items c.new.result absent passes ∙ ap Some len),
      inr (record {
        absent = absent;
        server = c.new.result;
        is_new = record {
          is_id = c.new.ensures.id;
          term = c.new.ensures.term;
          voted = c.new.ensures.voted;
          log = c.new.ensures.log;
          durable = c.new.ensures.durable;
          kept = c.new.ensures.kept;
        };
        added = c.in_ok-push.ensures.items;
      }),
    )

pub loop-i-preserved : goal.loop-i-preserved
loop-i-preserved g c =
    search_more (λ (s : Server g.row.N.Denot). g.N.PartialEq.eq s.id c.args.id)
    c.args.servers.now.items c.loop-i.i c.server-item.result (omega arith)
    (rw c.deref-server-items.ensures.value at c.server-item.is) (sym c.eq.ensures ∙ c.if-eq.false)
    c.loop-i.invariant

pub returns-then-eq-clause-at : goal.returns-then-eq-clause-at
returns-then-eq-clause-at g c = (
  search_ends (λ (s : Server g.row.N.Denot). g.N.PartialEq.eq s.id c.args.id)
      c.args.servers.now.items c.loop-i.i c.server-item.result (omega arith)
      (rw c.deref-server-items.ensures.value at c.server-item.is) (sym c.eq.ensures ∙ c.if-eq.true)
      c.loop-i.invariant,
  inl refl,
)
