use Rattle.raft_state.proofs.lemmas.sound.SoundCalls.{schedule_sound, scheduled_stays_valid}
use Rattle.raft_state.proofs.raft_state.RaftStateIn.schedule_purge.Goals as goal

pub returns-clause-valid : goal.returns-clause-valid
returns-clause-valid g c valid =
    scheduled_stays_valid g.met.C.Ord.total g.C.PartialEq.eq c.args.self.now c.args.upto.now c.requires valid

pub returns-clause-sound : goal.returns-clause-sound
returns-clause-sound g c sound =
    schedule_sound g.C.Ord.cmp g.C.PartialEq.eq g.met.C.Ord.total c.args.self.now c.args.upto.now c.requires sound
