use Rattle.std.proofs.Common.{arith, ap, sym, ◌≡◌, ◌∙◌, ◌-◌, ◌++◌, get_or, length, length-append, set}
use Rattle.std.specs.List.{swap}
use Rattle.std.proofs.lemmas.List.{length-set}
use Rattle.raft_progress.proofs.lemmas.progress.positions.InverseLemmas.{lent_whole}
use Rattle.raft_progress.proofs.lemmas.progress.entries.RisingLemmas.{swap_at_cut}
use Rattle.raft_progress.proofs.progress.entries.swap_with_previous.Goals as goal

pub returns : goal.returns
returns g c =
    let front = c.split_at_mut-front.result.0.now in
    let back = c.split_at_mut-front.result.1.now in
    let d = c.index-front-position.result in
    let e = c.index-back-0.result in
    let position = c.args.position in
    let new_front = set front (position - 1) (c.swap.new.x, c.swap-2.new.x) in
    let new_back = set back 0 (c.swap.new.y, c.swap-2.new.y) in
    let is : new_front ++ new_back ≡ set front (position - 1) (get_or back 0 e) ++ set back 0 (get_or front (position - 1) d) =
    λ i. set front (position - 1) (c.swap.ensures.x_after i, c.swap-2.ensures.x_after i)
    ++ set back 0 (c.swap.ensures.y_after i, c.swap-2.ensures.y_after i) in
    let whole = sym c.split_at_mut-front.ensures.value ∙ c.deref_mut.ensures.value in
    let same_length = ap length whole in
    let front_length = c.split_at_mut-front.ensures.front_len in
    let cut = length-append front back in
    let swapped = is ∙ swap_at_cut front back position d e c.requires.0 front_length (omega (arith, c.requires.1))
    ∙ ap (λ xs. swap xs (position - 1) position) whole in
    let length_left = length-append new_front new_back in
    let length_front = length-set front (position - 1) (c.swap.new.x, c.swap-2.new.x) in
    let length_back = length-set back 0 (c.swap.new.y, c.swap-2.new.y) in
    lent_whole c.args.entries.now.items (new_front ++ new_back) c.args.entries.now.len c.args.entries.now.ok.0 (omega arith) ∙ swapped
