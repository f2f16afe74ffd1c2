-- What the steps of a feed return: items are added up to a fault, and nothing is said where memory ran out.
use Rattle.std.specs.Prelude.{◌≡◌, ℕ, nat_lt, nat_le, List, ◌++◌, length, if◌then◌else◌, Option, Some, None, Result, Ok, Err, OnOk}
use Rattle.mux_segment.specs.declared.item.Item.{Item}
use Rattle.mux_segment.specs.declared.header.Header.{Header}
use Rattle.mux_segment.specs.Segment.{Segment}
use Rattle.cbor_items.specs.declared.scan.Scan.{Scan}
use Rattle.cbor_items.specs.declared.scan.Scan.TheVariants as scan
use Rattle.mux_segment.specs.declared.fault.CutFault.{CutFault}
use Rattle.mux_segment.specs.declared.fault.CutFault.TheVariants.{Bad, Deep, TooLong}
use Rattle.mux_segment.specs.declared.stopped.Stopped.{Stopped}
use Rattle.mux_segment.specs.declared.stopped.Stopped.TheVariants.{Fault, NoMemory}

-- `old` and `new` are the items before and after
abbrev pub Adds : {X : Type 0} → Result X Stopped → List Item → List Item → List Item → Option CutFault → Type 0
Adds (Ok x) old new items fault = (fault ≡ None) × (new ≡ old ++ items)
Adds (Err (Fault f)) old new items fault = (fault ≡ Some f) × (new ≡ old ++ items)
Adds (Err NoMemory) old new items fault = Unit {0}

-- The next item of a part: what one scan of it gives.
abbrev pub next_of : Scan → ℕ → List ℕ → Result (Option ℕ) CutFault
next_of (scan.Whole n) limit part = if nat_lt limit n then Err TooLong else Ok (Some n)
next_of scan.More limit part = if nat_le limit (length part) then Err TooLong else Ok None
next_of scan.Bad limit part = Err Bad
next_of scan.Deep limit part = Err Deep

abbrev pub IsNext : Result (Option ℕ) Stopped → Scan → ℕ → List ℕ → Type 0
IsNext (Ok next) answer limit part = next_of answer limit part ≡ Ok next
IsNext (Err (Fault f)) answer limit part = next_of answer limit part ≡ Err f
IsNext (Err NoMemory) answer limit part = ⊥

-- What a feed that stopped is told as: the fault as such, and want of memory alone as that.
abbrev pub IsTold : {E : Type 0} → Stopped → Result CutFault E → Type 0
IsTold (Fault f) told = told ≡ Ok f
IsTold NoMemory told = OnOk told ⊥

abbrev pub segment_with : Header → List ℕ → Segment
segment_with header payload = record { header = header; payload = payload }
