use Rattle.std.proofs.Common.{◌≡◌, true, false, not, nat_eq, ap, ◌∙◌, sym, inl, inr}
use Rattle.std.proofs.lemmas.Bool.{cases_Bool}
use Rattle.mux_segment.specs.Steps.{segment_with}
use Rattle.local_clients.proofs.PassedOver.{segment_passes}
use Rattle.local_clients.proofs.hearing.is_passed_over.Goals as goal

pub returns-in-None : goal.returns-in-None
returns-in-None c = λ other context version payload.
    let header = c.args.header.now in
    let ne : nat_eq header.id 0 ≡ false = elim (cases_Bool (nat_eq header.id 0)) [
      | inl same ↦ let wrong : false ≡ true = sym (ap not same) ∙ other in absurd cc
      | inr differs ↦ differs
    ] in
    segment_passes context version (segment_with header payload) (sym c.header_fault.ensures ∙ c.in-None.is) ne
