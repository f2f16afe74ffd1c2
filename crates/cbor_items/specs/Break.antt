-- Whether a break stands at the front.
use Rattle.std.specs.Prelude.{◌≡◌, ◌≢◌, ℕ, List, [], ◌∷◌, Option, Some, None, Result, Ok, Err}
use Rattle.cbor_items.specs.declared.stop.Stop.{Stop}
use Rattle.cbor_items.specs.declared.stop.Stop.TheVariants.{More}

-- the bytes begin with something that is no break
pub record HasNoBreak (bytes : List ℕ) : Type 0 where
  pub first : ℕ
  pub rest : List ℕ
  pub joined : bytes ≡ first ∷ rest
  pub no_break : first ≢ 0xff

-- what stands behind a break, as `view` sees it
abbrev pub IsBreak : {X : Type 0} → (X → List ℕ) → List ℕ → Result (Option X) Stop → Type 0
IsBreak view bytes (Ok (Some x)) = bytes ≡ 0xff ∷ view x
IsBreak view bytes (Ok None) = HasNoBreak bytes
IsBreak view bytes (Err stop) = (bytes ≡ []) × (stop ≡ More)
