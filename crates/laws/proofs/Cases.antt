-- A split by cases that keeps what is split on.
use Rattle.std.proofs.Common.{◌≡◌, Bool, true, false, Option, Some, None, refl, ap}
use Rattle.laws.specs.Words.{unwrap_or}

pub by_bool : (b : Bool) (P : Bool → Type 0) → (b ≡ true → P true) → (b ≡ false → P false) → P b
by_bool true P holds fails = holds refl
by_bool false P holds fails = fails refl

pub by_option : {X : Type 0} (o : Option X) (P : Option X → Type 0) → (o ≡ None → P None) → ((x : X) → o ≡ Some x → P (Some x)) → P o
by_option None P none some = none refl
by_option (Some x) P none some = some x refl

pub some_same : {X : Type 0} (a b : X) → Some a ≡ Some b → a ≡ b
some_same a b h = ap (λ o. unwrap_or o a) h
