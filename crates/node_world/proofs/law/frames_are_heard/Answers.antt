use Rattle.node_world.proofs.Hearing.{hears_frames}
use Rattle.node_world.proofs.law.frames_are_heard.Goals as goal

pub returns : goal.returns
returns c = hears_frames
