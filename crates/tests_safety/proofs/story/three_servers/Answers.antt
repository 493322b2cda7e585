use Rattle.std.specs.Prelude.{ℕ}
use Rattle.std.specs.Cmp.{nat_eq_equiv}
use Rattle.std.proofs.Common.{refl}
use Rattle.tests_safety.proofs.StoryLemmas.{all_of, ends_run, equal_numbers, some_of}
use Rattle.tests_safety.proofs.story.three_servers.Goals as goal

pub returns : goal.returns
returns g c =
    let all = all_of _ c.server-one.result c.server-two.result c.server-three.result c.zip.result c.zip-2.result c.in-Some.servers
    c.zip.ensures c.zip-2.ensures c.in-Some.is c.server-one.ensures.started c.server-two.ensures.started
    c.server-three.ensures.started in
    record {
      run = ends_run ℕ ℕ _ _ _ _ nat_eq_equiv 1 2 3 c.args.members.now.configs c.in-Some.servers.0.0
          c.in-Some.servers.0.1 c.in-Some.servers.1 c.tell-told.new.one c.tell-told.new.two c.tell-told.new.three _
          (record { nodes = equal_numbers; leaders = c.requires.exact })
          (record { one_two = refl; one_three = refl; two_three = refl }) g.met.L.LeaderIdentity.made c.requires.one_default
          c.requires.one_term
          all.0 all.1 all.2 (some_of _ c.tell-told.result c.in-Some-told.answers c.in-Some-told.is c.tell-told.ensures.tells)
          c.knows-one.ensures
          c.knows-two.ensures c.knows-three.ensures;
    }
