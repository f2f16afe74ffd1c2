use Rattle.std.proofs.Common.{[], ap, sym, ◌∙◌}
use Rattle.std.proofs.lemmas.List.{append-nil}
use Rattle.mux_segment.specs.Segment.{header_bytes, header_of}
use Rattle.mux_segment.proofs.Headers.{Fit-from_bytes, header_back, header_again}
use Rattle.mux_segment.proofs.law.headers_are_inverse.Goals as goal

pub returns : goal.returns
returns c = record {
  written = λ bytes are len. header_back bytes len (Fit-from_bytes bytes are);
  read = λ header fits. ap header_of (sym (append-nil (header_bytes header))) ∙ header_again header [] fits;
}
