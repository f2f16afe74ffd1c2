-- Laws on the choice, whatever function makes it.
use Rattle.std.specs.Prelude.{◌≡◌, false, List, [], All, Contains, Option, Some, None}
use Rattle.accept_gate.specs.declared.prune.Candidate.{Candidate}
use Rattle.accept_gate.specs.Prune.{goes_before, first_to_go}

-- one of the candidates, before which none of them goes; none where there is no candidate
abbrev pub IsFirstToGo : Option Candidate → List Candidate → Type 0
IsFirstToGo None cs = cs ≡ []
IsFirstToGo (Some c) cs = Contains cs c × All (λ d. goes_before d c ≡ false) cs

abbrev pub GoesFirst : Type 0
GoesFirst = (cs : List Candidate) → IsFirstToGo (first_to_go cs) cs
