use Rattle.raft_state.proofs.lemmas.sound.SoundTestLemmas.{sound_decides}
use Rattle.raft_state.proofs.raft_state.RaftStateIn.is_sound.Goals as goal

pub returns : goal.returns
returns g c = sound_decides g.C.PartialEq.eq g.C.Ord.cmp c.args.self.now c.passes_sound.result c.passes_sound.ensures
