use Rattle.mux_segment.proofs.Frames.{framed_cut}
use Rattle.mux_segment.proofs.Pieces.{are_pieces}
use Rattle.mux_segment.proofs.law.frames_are_cut_again.Goals as goal

pub returns : goal.returns
returns c = record {
  cut = λ side id now payload side_fits id_fits. framed_cut side id now side_fits id_fits payload;
  pieces = are_pieces;
}
