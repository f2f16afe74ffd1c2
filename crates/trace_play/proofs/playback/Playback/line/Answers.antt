use Rattle.trace_meaning.proofs.Heads.{AreSound-heads}
use Rattle.trace_play.proofs.playback.Playback.line.Goals as goal

pub play-requires-clause-sound : goal.play-requires-clause-sound
play-requires-clause-sound g c = AreSound-heads c.args.self.now.stage c.args.self.now.heads.items c.requires.heads
