-- Reading from left to right, up to the first thing that decides.
use Rattle.std.specs.Prelude.{◌≡◌, Result, Ok, Err}
use Rattle.cbor_items.specs.declared.stop.Stop.{Stop}

-- one reading and another behind it
infixl 10 ◌>>=◌
abbrev pub ◌>>=◌ : {A B : Type 0} → Result A Stop → (A → Result B Stop) → Result B Stop
(Ok x) >>= f = f x
(Err stop) >>= f = Err stop

-- what a function returned, seen by `view`, is what reading gives
abbrev pub Gives : {X Y : Type 0} → (X → Y) → Result X Stop → Result Y Stop → Type 0
Gives view (Ok x) read = read ≡ Ok (view x)
Gives view (Err stop) read = read ≡ Err stop
