use Rattle.std.proofs.Common.{arith, ap, false, get_or, length, map, refl, sym, take, ◌++◌, ◌∙◌, ◌∷◌, ◌≡◌, [], Bool, List, ℕ}
use Rattle.std.specs.Map.{keys_of}
use Rattle.std.specs.Set.{is_member}
use Rattle.std.proofs.lemmas.List.{get_or-map, length-map, map_more, take_all}
use Rattle.std.proofs.lemmas.Map.Entries.{length-keys_of}
use Rattle.raft_members.proofs.lemmas.quorum.MajorityLemmas.{in_set}
use Rattle.raft_progress.proofs.lemmas.progress.positions.LookupLemmas.{key_at}
use Rattle.raft_progress.proofs.progress.sides.Side.of.Goals as goal

pub loop-entry-preserved : goal.loop-entry-preserved
loop-entry-preserved g c =
    let has = λ (e : g.row.ID.Denot × ℕ). is_member g.ID.PartialEq.eq c.args.config.now.keys e.0 in
    let e = c.entry-item.result in
    let found : c.contains.result ≡ has e =
    c.contains.ensures ∙ in_set g.met.ID.Eq.laws g.ID.Ord.cmp g.met.ID.Ord.matches_eq e.0 c.args.config.now.keys in
    c.in_ok-push.ensures.items
    ∙ ap (λ (bs : List Bool). bs ++ c.contains.result ∷ []) c.loop-entry.invariant
    ∙ ap (λ (b : Bool). map has (take c.loop-entry.entry-index c.args.sorted.now) ++ b ∷ []) (found ∙ ap has c.entry-item.is)
    ∙ sym (map_more has c.args.sorted.now c.loop-entry.entry-index e (omega arith))

pub returns : goal.returns
returns g c =
    let has = λ (e : g.row.ID.Denot × ℕ). is_member g.ID.PartialEq.eq c.args.config.now.keys e.0 in
    let all : c.loop-entry.has.items ≡ map has c.args.sorted.now =
    c.loop-entry.invariant ∙ ap (map has) (take_all c.loop-entry.entry-index c.args.sorted.now (omega arith)) in
    record {
      need = rw c.len.ensures.len refl;
      one_length = ap length all ∙ length-map c.args.sorted.now has ∙ sym (length-keys_of c.args.sorted.now);
      has = λ r d l.
          let within = rw length-keys_of at l in
          let e : g.row.ID.Denot × ℕ = (d, 0) in
          ap (λ bs. get_or bs r false) all ∙ get_or-map has c.args.sorted.now r e false within
          ∙ ap (is_member g.ID.PartialEq.eq c.args.config.now.keys) (key_at c.args.sorted.now r e d within);
    }
