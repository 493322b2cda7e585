use mir.Val.{bool_byte}
use Rattle.std.proofs.Common.{arith, ap, cond, count_by, false, get_or, length, refl, subst, take, true, ◌+◌, ◌<◌, ◌∙◌, ◌≡◌, Bool, ℕ}
use Rattle.std.proofs.lemmas.List.Sums.{sum_by_more}
use Rattle.raft_progress.proofs.lemmas.progress.SideLemmas.{shortest_at, shortest_past}
use Rattle.raft_progress.proofs.lemmas.progress.positions.PositionsLemmas.{any_default}
use Rattle.raft_progress.proofs.progress.sides.Side.majority_len.Goals as goal

byte_counts : (b : Bool) → ◌≡◌ {A = ℕ} (bool_byte b) (cond b 1 0)
byte_counts true = refl
byte_counts false = refl

pub returns-then-found-self : goal.returns-then-found-self
returns-then-found-self c =
    let i = c.loop-position.position in
    let ranks = c.args.ranks.now in
    let items = c.args.self.now.has.items in
    let has = λ (r : ℕ). get_or items r false in
    let is : c.index.result.now ≡ has (get_or ranks i 0) = c.index.ensures
    ∙ any_default items (get_or ranks i 0) c.index.result.now false (c.requires.within i c.loop-position-test.true) in
    let one : c.from-found.result ≡ cond (has (get_or ranks i 0)) 1 0 =
    c.from-found.ensures ∙ byte_counts c.index.result.now ∙ ap (λ (b : Bool). cond b 1 0) is in
    let more : count_by has (take (i + 1) ranks) ≡ count_by has (take i ranks) + cond (has (get_or ranks i 0)) 1 0 =
    sum_by_more (λ (r : ℕ). cond (has r) 1 0) ranks i 0 c.loop-position-test.true in
    let so_far = c.loop-position.invariant.counted in
    let enough = c.if-found-self.true in
    shortest_at has c.args.self.now.need ranks i (rw (← c.loop-position.invariant.counted) c.loop-position.invariant.few) (omega arith)

pub returns : goal.returns
returns c =
    let has = λ (r : ℕ). get_or c.args.self.now.has.items r false in
    let past = c.loop-position-test.false in
    let end = c.loop-position.auto.position-end in
    let all : c.loop-position.position ≡ length c.args.ranks.now = omega arith in
    shortest_past has c.args.self.now.need c.args.ranks.now
    (subst (λ (n : ℕ). count_by has (take n c.args.ranks.now) < c.args.self.now.need) all
    (rw (← c.loop-position.invariant.counted) c.loop-position.invariant.few))
