-- Numbers that all change by one from a place on.
use Rattle.std.specs.Prelude.{ℕ, zero, suc, ◌+◌, ◌-◌, List, [], ◌∷◌}

-- from a place on each is one more
abbrev pub raised : ℕ → List ℕ → List ℕ
raised from [] = []
raised zero (f ∷ fs) = (f + 1) ∷ raised zero fs
raised (suc from) (f ∷ fs) = f ∷ raised from fs

-- from a place on each is one less
abbrev pub lowered : ℕ → List ℕ → List ℕ
lowered from [] = []
lowered zero (f ∷ fs) = (f - 1) ∷ lowered zero fs
lowered (suc from) (f ∷ fs) = f ∷ lowered from fs
