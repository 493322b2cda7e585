use Rattle.std.proofs.Common.{◌∙◌, ◌||◌, ap}
use Rattle.std.proofs.lemmas.List.Folds.{list_any-append}
use Rattle.std.specs.List.{list_any}
use Rattle.raft_members.proofs.quorum.joint_impl.append_ids.Goals as goal

pub returns : goal.returns
returns g c x =
    rw c.append.ensures.items
    (rw c.in_ok-append.was
    (list_any-append (g.ID.PartialEq.eq x) c.args.all.now.items c.in_ok-ids.ids.items
    ∙ ap (λ b. list_any (g.ID.PartialEq.eq x) c.args.all.now.items || b) (c.in_ok-ids.ensures.voters x)))
