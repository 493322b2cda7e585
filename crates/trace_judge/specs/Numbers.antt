-- How a run is tested: terms are numbers, and numbers stand for the names of servers and of contents.
use Rattle.std.specs.Prelude.{◌||◌, ℕ, Option, None, false, map, nat_eq}
use Rattle.std.specs.Cmp.Lexicographic.{pointwise}
use Rattle.std.specs.List.{list_all, list_any}
use Rattle.raft_members.specs.quorum.Coherence.{share_child}
use Rattle.raft_members.specs.quorum.Majority.{is_majority}
use Rattle.safety_laws.specs.Trace.{Tests}
use Rattle.trace_checker.specs.Memberships.{configs_of, some_meet}
use Rattle.trace_checker.specs.Inner.CheckerState.{config_in}
use Rattle.safety_laws.specs.declared.counting.ConfigsCount.{ConfigsCount}
use Rattle.safety_laws.specs.declared.counting.ConfigsCount.TheVariants.{WhenAppended}
use Rattle.trace_checker.specs.declared.memberships.Memberships.{Memberships}

-- numbers are compared as numbers. A quorum is a majority of each config of a membership, and quorums of
-- two memberships are known to intersect if they share a config, or if majorities of a config of each do
abbrev pub number_tests : ConfigsCount → Memberships ℕ ℕ → Tests ℕ ℕ ℕ (Option ℕ)
number_tests counting m = record {
  rank = λ t. t;
  same_term = nat_eq;
  same_id = nat_eq;
  same_content = nat_eq;
  config_of = config_in (λ d. list_any (λ p. nat_eq p.0 d) m.held.items);
  initial = None;
  quorum_of = λ c set. list_all (λ q. is_majority nat_eq q.items set)
      (configs_of nat_eq m.initial.items (map (λ p. (p.0, p.1.items)) m.held.items) c);
  intersect = λ a b.
      let these = configs_of nat_eq m.initial.items (map (λ p. (p.0, p.1.items)) m.held.items) a in
      let others = configs_of nat_eq m.initial.items (map (λ p. (p.0, p.1.items)) m.held.items) b in
      share_child (λ q r. pointwise nat_eq q.items r.items) these others
      || some_meet nat_eq (λ q. q.items) these others;
  counting = counting;
}

-- how the logs of a trace are read: numbers are compared as numbers, and configs do not matter
abbrev pub log_tests : Tests ℕ ℕ ℕ (Unit {0})
log_tests = record {
  rank = λ t. t;
  same_term = nat_eq;
  same_id = nat_eq;
  same_content = nat_eq;
  config_of = λ d. None;
  initial = tt;
  quorum_of = λ m set. false;
  intersect = λ m n. false;
  counting = WhenAppended;
}
