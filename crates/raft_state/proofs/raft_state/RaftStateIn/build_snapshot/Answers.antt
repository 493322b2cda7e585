use Rattle.raft_state.proofs.lemmas.sound.SoundCalls.{build_sound, built_stays_valid}
use Rattle.raft_state.proofs.raft_state.RaftStateIn.build_snapshot.Goals as goal

pub returns-clause-valid : goal.returns-clause-valid
returns-clause-valid g c valid = built_stays_valid g.met.C.Ord.total c.args.self.now c.args.meta c.requires valid

pub returns-clause-sound : goal.returns-clause-sound
returns-clause-sound g c sound =
    build_sound g.C.Ord.cmp g.C.PartialEq.eq g.met.C.Ord.total c.args.self.now c.args.meta c.requires sound
