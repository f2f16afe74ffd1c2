use Rattle.mux_segment.proofs.Headers.{Fit-from_bytes}
use Rattle.mux_segment.proofs.Cuts.{cut_is, cut_only, rest_fits}
use Rattle.mux_segment.proofs.law.streams_have_one_cut.Goals as goal

pub returns : goal.returns
returns c = record {
  some = λ bytes are. cut_is bytes (Fit-from_bytes bytes are);
  only = λ bytes rest segments are is. cut_only segments bytes rest (rest_fits bytes segments rest are is) is;
}
