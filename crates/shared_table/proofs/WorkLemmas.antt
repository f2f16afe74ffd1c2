-- How the list of a seat grows while a worker makes its calls.
use Rattle.std.proofs.Common.{◌≡◌, ℕ, ◌+◌, ◌-◌, ◌<◌, ◌≤◌, ◌^◌, min, List, [], ◌∷◌, ◌++◌, length, take, map, get_or, sym, subst, ap, ◌∙◌, append_assoc, arith}
use Rattle.std.proofs.lemmas.List.{take_more, map-append, append-nil, length-take, length-append, length-map}
use Rattle.std.proofs.Math.ListN.{get_or-map}
use Rattle.std.proofs.Math.Seq.{take-length}
use Rattle.shared_table.specs.Ends.{GrewBy, StoppedAt, Ended, StopsAt, MadeOne, OnHeld, KeptShut, SaidNo}
use Rattle.shared_table.specs.Entries.{noted}
use Rattle.shared_table.specs.declared.call.TableCall.{TableCall}
use Rattle.shared_table.specs.declared.entry.Noted.{Noted}
use Rattle.shared_table.specs.declared.work_end.WorkEnd.{WorkEnd}
use Rattle.shared_table.specs.declared.work_end.WorkEnd.TheVariants.{All, Held, OutOfMemory}

pub grew-none : (calls : List TableCall) (before : List Noted) → GrewBy (take 0 calls) before before
grew-none calls before = record { new = []; grown = sym (append-nil before); are_calls = grind arith }

pub grew-more : {C : Type 0} (f : C → TableCall) (xs : List C) (k : ℕ) (d : C) (before now after : List Noted) → k < length xs →
    GrewBy (take k (map f xs)) before now → MadeOne (f (get_or xs k d)) now after → GrewBy (take (k + 1) (map f xs)) before after
grew-more f xs k d before now after within g (reply, one) =
    let call = f (get_or xs k d) in
    let x : Noted = noted call reply in
    let joined : (before ++ g.new) ++ x ∷ [] ≡ before ++ (g.new ++ x ∷ []) = simp append_assoc in
    let inside : k < length (map f xs) = omega (arith, length-map xs f) in
    let more : take (k + 1) (map f xs) ≡ take k (map f xs) ++ call ∷ [] =
    take_more (map f xs) k (f d) inside ∙ ap (λ c. take k (map f xs) ++ c ∷ []) (get_or-map f xs k d) in
    record {
      new = g.new ++ x ∷ [];
      grown = one ∙ (ap (λ l. l ++ x ∷ []) g.grown ∙ joined);
      are_calls = map-append (λ n. n.call) g.new (x ∷ []) ∙ (ap (λ l. l ++ call ∷ []) g.are_calls ∙ sym more);
    }

pub grew-length : {C : Type 0} (f : C → TableCall) (xs : List C) (k : ℕ) (before now : List Noted) → k ≤ length xs →
    GrewBy (take k (map f xs)) before now → length now ≡ length before + k
grew-length f xs k before now within g =
    let calls = ap length g.are_calls in
    let all = ap length g.grown in
    omega (arith, calls, all, length-map g.new (λ n. n.call), length-append before g.new, length-take k (map f xs), length-map xs f)

pub grew-all : {C : Type 0} (f : C → TableCall) (xs : List C) (k : ℕ) (before now : List Noted) → k ≡ length xs →
    GrewBy (take k (map f xs)) before now → GrewBy (map f xs) before now
grew-all f xs k before now end g = subst (λ calls. GrewBy calls before now) whole g
  where
    whole : take k (map f xs) ≡ map f xs
    whole = ap (λ n. take n (map f xs)) (end ∙ sym (length-map xs f)) ∙ take-length (map f xs)

stopped : (index : ℕ) (calls : List TableCall) (k : ℕ) (before now after : List Noted) → index ≡ k + 1 → after ≡ now → k < length calls →
    GrewBy (take k calls) before now → StoppedAt index calls before after
stopped index calls k before now after is same within g =
    let back : k ≡ index - 1 = omega arith in
    record {
      from_one = omega arith;
      within = omega arith;
      grew = subst (λ l. GrewBy (take (index - 1) calls) before l) (sym same) (subst (λ n. GrewBy (take n calls) before now) back g);
    }

pub ended-stopped : (end : WorkEnd) (calls : List TableCall) (k : ℕ) (before now after : List Noted) → StopsAt (k + 1) end → after ≡ now → k < length calls →
    GrewBy (take k calls) before now → Ended end calls before after
ended-stopped All calls k before now after stops same within g = absurd stops
ended-stopped (Held index) calls k before now after stops same within g = stopped index calls k before now after stops same within g
ended-stopped (OutOfMemory index) calls k before now after stops same within g = stopped index calls k before now after stops same within g

kept_shut-earlier : (a b c : ℕ) → a ≤ b → KeptShut b c → KeptShut a c
kept_shut-earlier a b c le shut = omega arith

-- counts that were lower before
pub held-earlier : (end : WorkEnd) (a b c : ℕ → ℕ) → ((n : ℕ) → a n ≤ b n) → OnHeld end b c → OnHeld end a c
held-earlier All a b c lower held = held
held-earlier (Held index) a b c lower held = kept_shut-earlier (a index) (b index) (c index) (lower index) held
held-earlier (OutOfMemory index) a b c lower held = held

-- a gate that is asked once more says no once more
pub asked_more : (a k b c : ℕ) → min (a + k) (2 ^ 64 - 1) ≤ b → SaidNo b c → min (a + (k + 1)) (2 ^ 64 - 1) ≤ c
asked_more a k b c so_far said = omega arith

-- the worker stops at a call: the calls before it were made
pub stopped_here : {C : Type 0} (f : C → TableCall) (xs ys : List C) (k : ℕ) (end : WorkEnd) (before now after : List Noted) → xs ≡ ys → k < length xs →
    StopsAt (k + 1) end × (after ≡ now) → GrewBy (take k (map f xs)) before now → Ended end (map f ys) before after
stopped_here f xs ys k end before now after same within stops g =
    let inside : k < length (map f xs) = omega (arith, length-map xs f) in
    subst (λ l. Ended end (map f l) before after) same (ended-stopped end (map f xs) k before now after stops.0 stops.1 inside g)

-- all calls were made
pub all_made : {C : Type 0} (f : C → TableCall) (xs ys : List C) (k : ℕ) (before now : List Noted) → xs ≡ ys → k ≡ length xs →
    GrewBy (take k (map f xs)) before now → GrewBy (map f ys) before now
all_made f xs ys k before now same end g = subst (λ l. GrewBy (map f l) before now) same (grew-all f xs k before now end g)

-- the seat has made few calls, since there are few in all
pub few_made : {C : Type 0} (f : C → TableCall) (xs ys : List C) (k most : ℕ) (before now : List Noted) → xs ≡ ys → k < length xs → length before + length ys ≤ most →
    GrewBy (take k (map f xs)) before now → length now < most
few_made f xs ys k most before now same within few g =
    let long = ap length same in
    omega (arith, long, grew-length f xs k before now (omega arith) g)
