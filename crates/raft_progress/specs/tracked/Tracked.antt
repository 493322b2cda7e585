-- What contracts see of a `Tracked`. No other file reads its private fields.
use Rattle.std.specs.declared.clone.Clone as clone_ghosts
use Rattle.std.specs.declared.cmp.Ord as order_ghosts
use Rattle.std.specs.declared.cmp.PartialEq as eq_ghosts
use Rattle.std.specs.declared.cmp.PartialOrd as partial_ghosts
use Rattle.std.specs.declared.default.Default as default_ghosts
use Rattle.std.specs.declared.fmt.Debug as debug_ghosts
use Rattle.std.specs.declared.fmt.Display as display_ghosts
use Rattle.std.specs.declared.hash.Hash as hash_ghosts
use Rattle.raft_base.specs.declared.node.NodeDefault as node_ghosts
use Rattle.raft_progress.specs.progress.CountedValue.{IsCounted}
use Rattle.raft_progress.specs.progress.ProgressView.{state}
use Rattle.raft_progress.specs.tracked.Headline.{ChangedQuorumsKnowGranted, QuorumsKnowGranted}
use Rattle.raft_progress.specs.tracked.TrackedState.{IsReady, TrackedView, has_quorum}
use Rattle.raft_progress.specs.progress.VecProgress.{view}
use Rattle.raft_progress.specs.declared.progress.part.ProgressPart as part_ghosts
use Rattle.raft_progress.specs.declared.tracked.Tracked.{Tracked}

module _ {K N V P : Type 0} {ids : eq_ghosts.Ghosts K} {ids' : order_ghosts.Ghosts K}
    {ids'' : partial_ghosts.Ghosts K} {debug : debug_ghosts.Ghosts K}
    {display : display_ghosts.Ghosts K} {hash : hash_ghosts.Ghosts K}
    {zero : default_ghosts.Ghosts K} {nodes : eq_ghosts.Ghosts N} {nodes' : debug_ghosts.Ghosts N}
    {nodes'' : clone_ghosts.Ghosts N} {node : node_ghosts.Ghosts N}
    {values : part_ghosts.Ghosts V P} {parts : order_ghosts.Ghosts P} {parts' : eq_ghosts.Ghosts P}
    {parts'' : partial_ghosts.Ghosts P} where
  -- its membership, and what contracts see of its progress
  abbrev pub tracked_view : Tracked K N V P ids ids' ids'' debug display hash zero nodes nodes' nodes''
      node values parts parts' parts''
      → TrackedView K N V P
  tracked_view t = record { membership = t.membership; progress = view t.progress }

  -- its progress is in order, and counts by its membership
  abbrev pub TrackedIsReady : Tracked K N V P ids ids' ids'' debug display hash zero nodes nodes' nodes''
      node values parts parts' parts''
      → Type 0
  TrackedIsReady t = IsReady ids.eq ids'.cmp parts.cmp values.part_of (tracked_view t)

  -- granted is the counted value: it is recomputed from the present values
  abbrev pub GrantedIsCounted : Tracked K N V P ids ids' ids'' debug display hash zero nodes nodes' nodes''
      node values parts parts' parts''
      → Type 0
  GrantedIsCounted t =
      IsCounted parts.cmp values.part_of (has_quorum ids.eq) (state ids.eq (tracked_view t).progress)
      (tracked_view t).progress.granted

  -- if the membership has a config, each of its quorums has a voter whose part is at least granted
  abbrev pub QuorumsHaveGranted : Tracked K N V P ids ids' ids'' debug display hash zero nodes nodes' nodes''
      node values parts parts' parts''
      → Type 0
  QuorumsHaveGranted t = QuorumsKnowGranted ids.eq parts.cmp values.part_of (tracked_view t)

  -- each quorum of what one change makes of the membership has such a voter
  abbrev pub ChangedQuorumsHaveGranted : Tracked K N V P ids ids' ids'' debug display hash zero nodes nodes' nodes''
      node values parts parts' parts''
      → Type 0
  ChangedQuorumsHaveGranted t =
      ChangedQuorumsKnowGranted ids.eq ids'.cmp parts.cmp values.part_of (tracked_view t)
