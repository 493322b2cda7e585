use Rattle.std.proofs.Common.{Some, ap, refl, sym}
use Rattle.raft_progress.proofs.lemmas.progress.entries.EntriesLemmas.{lookup_absent}
use Rattle.raft_progress.proofs.lemmas.progress.entries.VoterLemmas.{member_position, value_position}
use Rattle.raft_progress.proofs.progress.vec_progress.VecProgressProgress.is_voter.Goals as goal

pub returns-in-Some : goal.returns-in-Some
returns-in-Some g c =
    let v = value_position g.ID.PartialEq.eq c.args.id.now 0 c.in-Some.position c.args.self.now.entries.items (sym c.in-Some.ensures) in
    rw v.1 (ap Some (sym (member_position g.ID.PartialEq.eq c.args.id.now c.args.self.now.voter_count c.in-Some.position
    c.args.self.now.entries.items (sym c.in-Some.ensures))))

pub returns-in-None : goal.returns-in-None
returns-in-None g c = rw (lookup_absent (g.ID.PartialEq.eq c.args.id.now) c.args.self.now.entries.items (sym c.in-None.ensures)) refl
