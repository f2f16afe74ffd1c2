-- What was returned, and what reading gives.
use Rattle.std.proofs.Common.{◌≡◌, Option, Some, None, option_map, Result, Ok, Err, ok_or, sym, ap, ◌∙◌}
use Rattle.std.specs.Result.{result_ok}
use Rattle.cbor_items.specs.Front.{Finds}
use Rattle.warm_messages.specs.declared.unread.Unread.{Unread}
use Rattle.warm_messages.specs.declared.unread.Unread.TheVariants.{NoMessage}

pub gives_some : {X Y : Type 0} (view : X → Y) (returned : Option X) (read : Option Y) (x : X) → returned ≡ Some x → read ≡ option_map view returned → read ≡ Some (view x)
gives_some view returned read x e g = g ∙ ap (option_map view) e

pub gives_none : {X Y : Type 0} (view : X → Y) (returned : Option X) (read : Option Y) → returned ≡ None → read ≡ option_map view returned → read ≡ None
gives_none view returned read e g = g ∙ ap (option_map view) e

-- what stands for a missing value
pub missing_is : {X : Type 0} (o : Option X) (unread : Unread) → ◌≡◌ {A = Result X Unread} (Err unread) (ok_or o NoMessage) → unread ≡ NoMessage
missing_is None unread e = cc
missing_is (Some x) unread e = absurd cc

-- the same where a reader of another crate returned
pub finds_some : {X Y E : Type 0} (view : X → Y) (returned : Result X E) (read : Option Y) (x : X) → ◌≡◌ {A = Option X} (Some x) (result_ok returned) → Finds view returned read → read ≡ Some (view x)
finds_some view (Ok y) read x e f = let same : x ≡ y = cc in f ∙ ap (λ (z : _). Some (view z)) (sym same)
finds_some view (Err stop) read x e f = absurd cc

pub finds_none : {X Y E : Type 0} (view : X → Y) (returned : Result X E) (read : Option Y) → ◌≡◌ {A = Option X} None (result_ok returned) → Finds view returned read → read ≡ None
finds_none view (Ok y) read e f = absurd cc
finds_none view (Err stop) read e f = f
