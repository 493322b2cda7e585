-- The order of votes is a partial order if the order of leaders is one.
use Rattle.std.specs.Prelude.{◌≡◌, Bool, true, false, Option, Some, None, ◌&&◌}
use Rattle.std.specs.Bool.{Decides}
use Rattle.std.specs.Cmp.{IsPartialOrder, po_right, first_so, second_so, bool_cmp_total, booleans_Decides}
use mathlib.Core.Bool.{beq}
use Rattle.std.specs.Ordering.{bool_cmp, ordering_reverse}
use Rattle.std.specs.Option.{option_map}
use Rattle.std.proofs.Common.{refl, sym, ◌∙◌, ap}
use Rattle.std.specs.declared.cmp.Ordering.{Ordering}
use Rattle.std.specs.declared.cmp.Ordering.TheVariants.{Less, Equal, Greater}
use Rattle.raft_base.specs.LeaderOrder.{IncomparableAlike}
use Rattle.raft_base.specs.LeaderOrderLawful.{apart_back}
use Rattle.raft_base.specs.Vote.{by_leader_then_committed}

-- the other way round, the result is the reverse
reversed : (o : Option Ordering) (c d : Bool) → by_leader_then_committed o c d
    ≡ option_map ordering_reverse (by_leader_then_committed (option_map ordering_reverse o) d c)
reversed (Some Less) c d = refl
reversed (Some Greater) c d = refl
reversed (Some Equal) c d = ap Some (bool_cmp_total.antisymm c d)
reversed None false false = refl
reversed None true false = refl
reversed None false true = refl
reversed None true true = refl

-- for one leader, and for leaders that do not compare, only the greater vote is committed
committed_above : (c d : Bool) → Some (bool_cmp c d) ≡ Some Less → (c ≡ false) × (d ≡ true)
committed_above false false h = cc
committed_above false true h = (refl, refl)
committed_above true false h = cc
committed_above true true h = cc

committed_above_apart : (c d : Bool) → by_leader_then_committed None c d ≡ Some Less
    → (c ≡ false) × (d ≡ true)
committed_above_apart false false h = cc
committed_above_apart false true h = (refl, refl)
committed_above_apart true false h = cc
committed_above_apart true true h = cc

-- no vote is both committed and not
both : {G : Type 0} (c : Bool) → c ≡ true → c ≡ false → G
both c h k = cc

-- two flags tie exactly if they are equal
flags_tie : (c d : Bool) → Decides (beq c d) (Some (bool_cmp c d) ≡ Some Equal)
flags_tie false false = (λ _. refl, λ _. refl)
flags_tie false true = (λ h. cc, λ h. cc)
flags_tie true false = (λ h. cc, λ h. cc)
flags_tie true true = (λ _. refl, λ _. refl)

-- votes for leaders that do not compare never tie
apart_no_tie : (c d : Bool) {G : Type 0} → by_leader_then_committed None c d ≡ Some Equal → G
apart_no_tie false false h = cc
apart_no_tie true false h = cc
apart_no_tie false true h = cc
apart_no_tie true true h = cc

module _ {L : Type 0} {same : L → L → Bool} {order : L → L → Option Ordering}
    (o : IsPartialOrder same order) (alike : IncomparableAlike order) where
  -- of three votes, by how the first two and the last two leaders compare
  chain : (x y z : L) (c d e : Bool) (k m : Option Ordering) → order x y ≡ k → order y z ≡ m
      → by_leader_then_committed k c d ≡ Some Less → by_leader_then_committed m d e ≡ Some Less
      → by_leader_then_committed (order x z) c e ≡ Some Less
  chain x y z c d e (Some Greater) m a b h g = cc
  chain x y z c d e k (Some Greater) a b h g = cc
  chain x y z c d e (Some Less) (Some Less) a b h g =
      ap (λ r. by_leader_then_committed r c e) (o.trans x y z a b)
  chain x y z c d e (Some Less) (Some Equal) a b h g =
      ap (λ r. by_leader_then_committed r c e) (sym (po_right o y z x ((o.matches_eq y z).1 b)) ∙ a)
  chain x y z c d e (Some Less) None a b h g =
      ap (λ r. by_leader_then_committed r c e) ((alike y z x b).0.0 a)
  chain x y z c d e (Some Equal) (Some Less) a b h g =
      ap (λ r. by_leader_then_committed r c e) (o.congr x y z ((o.matches_eq x y).1 a) ∙ b)
  chain x y z c d e None (Some Less) a b h g =
      ap (λ r. by_leader_then_committed r c e) ((alike y x z (apart_back o x y a)).1.0 b)
  chain x y z c d e (Some Equal) (Some Equal) a b h g =
      both d (committed_above c d h).1 (committed_above d e g).0
  chain x y z c d e (Some Equal) None a b h g =
      both d (committed_above c d h).1 (committed_above_apart d e g).0
  chain x y z c d e None (Some Equal) a b h g =
      both d (committed_above_apart c d h).1 (committed_above d e g).0
  chain x y z c d e None None a b h g =
      both d (committed_above_apart c d h).1 (committed_above_apart d e g).0

  -- votes tie exactly if both leaders and flags are equal
  ties : (s : Bool) (c d : Bool) (k : Option Ordering) → Decides s (k ≡ Some Equal)
      → Decides (s && beq c d) (by_leader_then_committed k c d ≡ Some Equal)
  ties true c d (Some Equal) h = flags_tie c d
  ties true c d (Some Less) h = let e : Some Less ≡ Some Equal = h.0 refl in cc
  ties true c d (Some Greater) h = let e : Some Greater ≡ Some Equal = h.0 refl in cc
  ties true c d None h = let e : None ≡ Some Equal = h.0 refl in cc
  ties false c d (Some Equal) h = let e : false ≡ true = h.1 refl in cc
  ties false c d (Some Less) h = (λ e. cc, λ e. cc)
  ties false c d (Some Greater) h = (λ e. cc, λ e. cc)
  ties false c d None h = (λ e. cc, λ e. apart_no_tie c d e)

  -- equal votes compare alike with a third
  alike_votes : (x y z : L) (c d e : Bool) → same x y ≡ true → beq c d ≡ true
      → by_leader_then_committed (order x z) c e ≡ by_leader_then_committed (order y z) d e
  alike_votes x y z c d e h k = rw (o.congr x y z h, (booleans_Decides c d).0 k) refl

  pub vote_cmp-partial : {V : Type 0} (leader : V → L) (committed : V → Bool)
      → IsPartialOrder (λ a b. same (leader a) (leader b) && beq (committed a) (committed b))
      (λ a b. by_leader_then_committed (order (leader a) (leader b)) (committed a) (committed b))
  vote_cmp-partial leader committed = record {
    antisymm = λ a b. reversed (order (leader a) (leader b)) (committed a) (committed b)
        ∙ ap
        (λ r. option_map ordering_reverse (by_leader_then_committed r (committed b) (committed a)))
        (sym (o.antisymm (leader b) (leader a)));
    trans = λ a b c h k. chain (leader a) (leader b) (leader c) (committed a) (committed b)
        (committed c) _ _ refl refl h k;
    matches_eq = λ a b. ties _ (committed a) (committed b) _ (o.matches_eq (leader a) (leader b));
    congr = λ a b c h. alike_votes (leader a) (leader b) (leader c) (committed a) (committed b)
        (committed c) (first_so _ _ h) (second_so _ _ h);
  }
