use Rattle.std.proofs.Common.{◌∷◌, take}
use Rattle.std.specs.Fmt.{HasWritten, IsPlainFormatter}
use Rattle.std.specs.List.{flat_map}
use Rattle.trace_text.specs.Addresses.{printed_address}
use Rattle.trace_text.proofs.text.AddressTextsDisplay.fmt.Given as goal

abbrev pub invariant-loop-address : goal.invariant-loop-address
invariant-loop-address g l =
    IsPlainFormatter l.fn.f → HasWritten g.W.Write.write_str_gives l.fn.f (flat_map (λ a. 32 ∷ printed_address a) (take l.address-index l.self.0.now)) l.f
