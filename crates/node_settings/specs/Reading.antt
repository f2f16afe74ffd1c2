-- Fields that are read one after the other: the first that is wrong decides.
use Rattle.std.specs.Prelude.{ℕ, Bool, Option, Some, None, Result, Ok, Err}
use Rattle.std.specs.Option.{option_and_then, ok_or}
use Rattle.net_base.specs.declared.settings.Field.{Field}

infixl 10 ◌>>=◌
abbrev pub ◌>>=◌ : {A B : Type 0} → Result A Field → (A → Result B Field) → Result B Field
Ok x >>= f = f x
Err field >>= f = Err field

-- a value, unless a field is wrong
abbrev pub unless_wrong : {A : Type 0} → Option Field → A → Result A Field
unless_wrong None value = Ok value
unless_wrong (Some field) value = Err field

-- a field that must be there, read in some way
abbrev pub required : {D A : Type 0} → Field → (D → Option A) → Option D → Result A Field
required field read found = ok_or (option_and_then read found) field

-- a field that has a default where it is absent
abbrev pub optional : {D A : Type 0} → Field → (D → Option A) → A → Option D → Result A Field
optional field read default None = Ok default
optional field read default (Some found) = ok_or (read found) field

-- what was read, in another view
abbrev pub viewed : {A B : Type 0} → (A → B) → Result A Field → Result B Field
viewed view (Ok value) = Ok (view value)
viewed view (Err field) = Err field
