-- A scan that goes on from where it stopped.
use Rattle.std.proofs.Common.{◌≡◌, ◌≢◌, ℕ, zero, suc, ◌-◌, ◌*◌, ◌≤◌, ◌<◌, true, false, eqb, ltb, cond, List, [], ◌∷◌, ◌++◌, length, take, drop, Result, Ok, Err, refl, sym, ap, ◌∙◌, append_assoc, arith, inl, inr}
use Rattle.std.specs.Prelude.{reverse, IfOk}
use Rattle.std.proofs.lemmas.Bool.{eqb-true, ltb-false, le-ltb, ne_eqb}
use Rattle.std.proofs.lemmas.List.{append-nil, length-append, length-drop, reverse-append, take-append-drop, take-append-le, drop-append-le, drop_at}
use Rattle.cbor_items.specs.declared.head.Head.{Head}
use Rattle.cbor_items.specs.declared.stop.Stop.{Stop}
use Rattle.cbor_items.specs.declared.stop.Stop.TheVariants as stop
use Rattle.cbor_items.specs.declared.halt.Halt.{Halt}
use Rattle.cbor_items.specs.declared.halt.Halt.TheVariants.{Stopped, NoMemory}
use Rattle.cbor_items.specs.declared.level.Thing.{Thing}
use Rattle.cbor_items.specs.declared.level.Thing.TheVariants.{Item, Entry, ByteChunk, TextChunk}
use Rattle.cbor_items.specs.declared.level.Level.{Level}
use Rattle.cbor_items.specs.declared.level.Level.TheVariants.{Items, Value, ToBreak}
use Rattle.cbor_items.specs.declared.scan.Scan.{Scan}
use Rattle.cbor_items.specs.declared.scan.Scan.TheVariants as scan
use Rattle.cbor_items.specs.Reading.{◌>>=◌}
use Rattle.cbor_items.specs.Head.{info_of, argument_len, may_follow, head_of, initial_at, argument_at}
use Rattle.cbor_items.specs.Item.{level_limit, IsString}
use Rattle.cbor_items.specs.Scan.{Skip, skip_pair, skip_row, skip_to_break, skip_chunk, skip_flat_content, skip_nested_content, skip_flat, skip_nested, is_nested, skip_item, scan_result, scan_of}
use Rattle.cbor_items.specs.Level.{skip_thing, skip_level, skip_open}
use Rattle.cbor_items.specs.Resume.{Place, HasSeen}
use Rattle.cbor_items.specs.Steps.{is_done, Goes, Opens, IsHalted, BeginsAs, StepsTo, HasEnded, AnswersBy}
use Rattle.cbor_items.proofs.Skips.{Skips, StartsPlain, chosen, bind_ok}
use Rattle.cbor_items.proofs.Heads.{initial_found}
use Rattle.cbor_items.proofs.Items.{skips_chunk, string_is_plain, skips_flat_content}
use Rattle.cbor_items.proofs.Grammar.{item_is_plain, skips_item}
use Rattle.cbor_items.proofs.Loops.{item_is_flat, item_is_nested}

-- ---- one reading behind another

bind_assoc : {A B C : Type 0} (r : Result A Stop) (f : A → Result B Stop) (g : B → Result C Stop) → ((r >>= f) >>= g) ≡ (r >>= λ x. f x >>= g)
bind_assoc (Ok x) f g = refl
bind_assoc (Err stop) f g = refl

bind_same : {A B : Type 0} (r : Result A Stop) (f g : A → Result B Stop) → ((x : A) → r ≡ Ok x → f x ≡ g x) → (r >>= f) ≡ (r >>= g)
bind_same (Ok x) f g same = same x refl
bind_same (Err stop) f g same = refl

bind_nothing : {A : Type 0} (r : Result A Stop) → (r >>= λ x. Ok x) ≡ r
bind_nothing (Ok x) = refl
bind_nothing (Err stop) = refl

-- ---- what is passed over is passed over again whatever follows it, and is not empty

passes : {Thing : List ℕ → Type 0} {skip : Skip} → Skips Thing skip → (bytes rest more : List ℕ) → skip bytes ≡ Ok rest → skip (bytes ++ more) ≡ Ok (rest ++ more)
passes {skip = skip} s bytes rest more e =
    let f = s.found bytes rest e in
    ap skip (ap (λ (x : List ℕ). x ++ more) f.joined ∙ append_assoc f.front rest more) ∙ s.again f.front (rest ++ more) f.is

shortens : {Thing : List ℕ → Type 0} {skip : Skip} → Skips Thing skip → ((x : List ℕ) → Thing x → StartsPlain x) → (bytes rest : List ℕ) → skip bytes ≡ Ok rest
    → length rest < length bytes
shortens s plain bytes rest e =
    let f = s.found bytes rest e in
    let p = plain f.front f.is in
    omega (arith, ap length f.joined, length-append f.front rest, ap length p.joined)

thing_shortens : (depth : ℕ) (thing : Thing) (bytes rest : List ℕ) → skip_thing (skip_item depth) thing bytes ≡ Ok rest → length rest < length bytes
thing_shortens depth Item bytes rest e = shortens (skips_item depth) (item_is_plain depth) bytes rest e
thing_shortens depth Entry bytes rest e =
    let b = bind_ok (skip_item depth bytes) (skip_item depth) rest e in
    let one = shortens (skips_item depth) (item_is_plain depth) bytes b.0 b.1 in
    let two = shortens (skips_item depth) (item_is_plain depth) b.0 rest b.2 in
    omega arith
thing_shortens depth ByteChunk bytes rest e = shortens (skips_chunk 2 refl) (string_is_plain 2) bytes rest e
thing_shortens depth TextChunk bytes rest e = shortens (skips_chunk 3 refl) (string_is_plain 3) bytes rest e

-- ---- things up to a break

module _ (thing : Skip) (shorter : (bytes rest : List ℕ) → thing bytes ≡ Ok rest → length rest < length bytes) where
  -- more turns than bytes change nothing
  break_enough : (n m : ℕ) (bytes : List ℕ) → length bytes ≤ n → length bytes ≤ m → skip_to_break thing n bytes ≡ skip_to_break thing m bytes
  unfolding skip_to_break
  break_enough zero zero bytes a b = refl
  break_enough zero (suc m) [] a b = refl
  break_enough zero (suc m) (byte ∷ bytes) a b = absurd (omega arith)
  break_enough (suc n) zero [] a b = refl
  break_enough (suc n) zero (byte ∷ bytes) a b = absurd (omega arith)
  break_enough (suc n) (suc m) [] a b = refl
  break_enough (suc n) (suc m) (byte ∷ bytes) a b =
      ap (λ r. cond (eqb byte 255) (Ok bytes) r)
      (bind_same (thing (byte ∷ bytes)) (skip_to_break thing n) (skip_to_break thing m)
      (λ x e. let less = shorter (byte ∷ bytes) x e in break_enough n m x (omega arith) (omega arith)))

  before_break : (first : ℕ) (bytes : List ℕ) (next : Skip) → first ≢ 255
      → (skip_to_break thing (length (first ∷ bytes)) (first ∷ bytes) >>= next) ≡ (thing (first ∷ bytes) >>= λ rest. skip_to_break thing (length rest) rest >>= next)
  unfolding skip_to_break
  before_break first bytes next no_break =
      let n = length bytes in
      let all = first ∷ bytes in
      let one : skip_to_break thing (suc n) all ≡ (thing all >>= skip_to_break thing n) = rw (ne_eqb first 255 no_break) refl in
      ap (λ r. r >>= next) one
      ∙ bind_assoc (thing all) (skip_to_break thing n) next
      ∙ bind_same (thing all) (λ x. skip_to_break thing n x >>= next) (λ x. skip_to_break thing (length x) x >>= next)
      (λ x e. let less = shorter all x e in ap (λ r. r >>= next) (break_enough n (length x) x (omega arith) (omega arith)))

-- ---- heads

record Reads (initial : ℕ) (bytes : List ℕ) (head : Head) (rest : List ℕ) : Type 0 where
  front : List ℕ
  joined : bytes ≡ front ++ rest
  again : (more : List ℕ) → argument_at initial (bytes ++ more) ≡ Ok (head, rest ++ more)

argument_reads : (initial : ℕ) (bytes : List ℕ) (head : Head) (rest : List ℕ) → argument_at initial bytes ≡ Ok (head, rest) → Reads initial bytes head rest
argument_reads initial bytes head rest e =
    let n = argument_len (info_of initial) in
    let found = head_of initial (take n bytes) in
    elim (chosen (ltb (length bytes) n) (Err stop.More) (cond (may_follow initial (take n bytes)) (Ok (found, drop n bytes)) (Err stop.Bad)) (Ok (head, rest)) e) [
      | inl (short, read) ↦ absurd cc
      | inr (long, read) ↦ elim (chosen (may_follow initial (take n bytes)) (Ok (found, drop n bytes)) (Err stop.Bad) (Ok (head, rest)) read) [
        | inl (follows, read') ↦
            let fits : n ≤ length bytes = ltb-false _ _ long in
            let is : ◌≡◌ {A = Head × List ℕ} (found, drop n bytes) (head, rest) = cc in
            record {
              front = take n bytes;
              joined = sym (take-append-drop n bytes) ∙ ap (λ (p : Head × List ℕ). take n bytes ++ p.1) is;
              again = λ more.
                  let longer : ltb (length (bytes ++ more)) n ≡ false = le-ltb _ _ (omega (arith, length-append bytes more)) in
                  rw (longer, take-append-le n bytes more fits, drop-append-le n bytes more fits, follows)
                  (ap (λ (p : Head × List ℕ). Ok (p.0, p.1 ++ more)) is);
            }
        | inr (wrong, read') ↦ absurd cc
      ]
    ]

-- ---- what begins an item

entries_are_items : (item : Skip) (n : ℕ) (bytes : List ℕ) → skip_row (skip_pair item item) n bytes ≡ skip_row item (2 * n) bytes
unfolding skip_row
entries_are_items item zero bytes = refl
entries_are_items item (suc n) bytes =
    let twice : 2 * suc n ≡ suc (suc (2 * n)) = omega arith in
    let entries = skip_row (skip_pair item item) n in
    rw twice (bind_assoc (item bytes) item entries
    ∙ bind_same (item bytes) (λ x. item x >>= entries) (λ x. item x >>= skip_row item (2 * n))
    (λ x e. bind_same (item x) entries (skip_row item (2 * n)) (λ y f. entries_are_items item n y)))

one_item : (item : Skip) (bytes : List ℕ) → skip_row item 1 bytes ≡ item bytes
unfolding skip_row
one_item item bytes = bind_nothing (item bytes)

abbrev pub IsLevelOf : Head → Level → Type 0
IsLevelOf head level = (item : Skip) (bytes : List ℕ) → skip_nested_content item head bytes ≡ skip_level item level bytes

module _ (head : Head) where
  pub array_level : head.major ≡ 4 → head.indefinite ≡ false → IsLevelOf head (Items head.value)
  unfolding skip_nested_content
  array_level major definite item bytes = rw (major, definite) refl

  pub open_array_level : head.major ≡ 4 → head.indefinite ≡ true → IsLevelOf head (ToBreak Item)
  unfolding skip_nested_content
  open_array_level major definite item bytes = rw (major, definite) refl

  pub map_level : head.major ≡ 5 → head.indefinite ≡ false → IsLevelOf head (Items (2 * head.value))
  unfolding skip_nested_content
  map_level major definite item bytes = rw (major, definite) (entries_are_items item head.value bytes)

  pub open_map_level : head.major ≡ 5 → head.indefinite ≡ true → IsLevelOf head (ToBreak Entry)
  unfolding skip_nested_content
  open_map_level major definite item bytes = rw (major, definite) refl

  pub tag_level : head.major ≢ 4 → head.major ≢ 5 → IsLevelOf head (Items 1)
  unfolding skip_nested_content
  tag_level no_array no_map item bytes = rw (ne_eqb head.major 4 no_array, ne_eqb head.major 5 no_map) (sym (one_item item bytes))

pub nested_opens : (item : Skip) (initial : ℕ) (bytes : List ℕ) (head : Head) (rest : List ℕ) (level : Level) → argument_at initial bytes ≡ Ok (head, rest)
    → IsLevelOf head level → Opens (skip_nested item initial) item bytes level rest
nested_opens item initial bytes head rest level e is =
    let a = argument_reads initial bytes head rest e in
    record {
      front = a.front;
      joined = a.joined;
      same = λ more. ap (λ r. r >>= λ read. skip_nested_content item read.0 read.1) (a.again more) ∙ is item (rest ++ more);
    }

pub flat_opens : (initial : ℕ) (bytes rest : List ℕ) → skip_flat initial bytes ≡ Ok rest → (item : Skip) → Opens (skip_flat initial) item bytes (Items 0) rest
unfolding skip_row
flat_opens initial bytes rest e item =
    let b = bind_ok (argument_at initial bytes) (λ read. skip_flat_content read.0 read.1) rest e in
    let a = argument_reads initial bytes b.0.0 b.0.1 b.1 in
    let s = skips_flat_content b.0.0 in
    let f = s.found b.0.1 rest b.2 in
    record {
      front = a.front ++ f.front;
      joined = a.joined ∙ ap (λ (x : List ℕ). a.front ++ x) f.joined ∙ sym (append_assoc a.front f.front rest);
      same = λ more. ap (λ r. r >>= λ read. skip_flat_content read.0 read.1) (a.again more) ∙ passes s b.0.1 rest more b.2;
    }

bytes_flat : (bytes : List ℕ) → skip_flat 0x5f bytes ≡ skip_to_break (skip_chunk 2) (length bytes) bytes
unfolding skip_flat_content
bytes_flat bytes = let there : ltb (length bytes) 0 ≡ false = le-ltb (length bytes) 0 (omega arith) in rw there refl

text_flat : (bytes : List ℕ) → skip_flat 0x7f bytes ≡ skip_to_break (skip_chunk 3) (length bytes) bytes
unfolding skip_flat_content
text_flat bytes = let there : ltb (length bytes) 0 ≡ false = le-ltb (length bytes) 0 (omega arith) in rw there refl

pub bytes_open : (bytes : List ℕ) (item : Skip) → Opens (skip_flat 0x5f) item bytes (ToBreak ByteChunk) bytes
bytes_open bytes item = record { front = []; joined = refl; same = λ more. bytes_flat (bytes ++ more) }

pub text_opens : (bytes : List ℕ) (item : Skip) → Opens (skip_flat 0x7f) item bytes (ToBreak TextChunk) bytes
text_opens bytes item = record { front = []; joined = refl; same = λ more. text_flat (bytes ++ more) }

module _ (depth : ℕ) (bytes : List ℕ) (initial : ℕ) (behind : List ℕ) (begins : initial_at bytes ≡ Ok (initial, behind)) where
  initial_still : (more : List ℕ) → initial_at (bytes ++ more) ≡ Ok (initial, behind ++ more)
  initial_still more = let f = initial_found bytes initial behind begins in ap (λ (x : List ℕ). initial_at (x ++ more)) f.0 ∙ rw f.1 refl

  opens_flat : (item : Skip) (level : Level) (rest : List ℕ) → is_nested initial ≡ false → Opens (skip_flat initial) item behind level rest → Opens (skip_item depth) item bytes level rest
  opens_flat item level rest flat o = record {
    front = initial ∷ o.front;
    joined = (initial_found bytes initial behind begins).0 ∙ ap (λ (x : List ℕ). initial ∷ x) o.joined;
    same = λ more. item_is_flat depth (bytes ++ more) initial (behind ++ more) (initial_still more) flat ∙ o.same more;
  }

  opens_nested : (inner : ℕ) (level : Level) (rest : List ℕ) → is_nested initial ≡ true → 1 ≤ depth → inner ≡ depth - 1
      → Opens (skip_nested (skip_item inner) initial) (skip_item inner) behind level rest → Opens (skip_item depth) (skip_item (depth - 1)) bytes level rest
  opens_nested inner level rest nested some below o = record {
    front = initial ∷ o.front;
    joined = (initial_found bytes initial behind begins).0 ∙ ap (λ (x : List ℕ). initial ∷ x) o.joined;
    same = λ more.
        item_is_nested depth (bytes ++ more) initial (behind ++ more) inner (initial_still more) nested some below ∙ o.same more
        ∙ ap (λ (d : ℕ). skip_level (skip_item d) level (rest ++ more)) below;
  }

  pub begins_flat : {X : Type 0} (view : X → Level × List ℕ) (item : Skip) (r : Result X Stop) → is_nested initial ≡ false
      → BeginsAs view (skip_flat initial) item behind r → BeginsAs view (skip_item depth) item bytes r
  begins_flat view item (Ok x) flat o = opens_flat item (view x).0 (view x).1 flat o
  begins_flat view item (Err stop) flat e = item_is_flat depth bytes initial behind begins flat ∙ e

  pub begins_nested : {X : Type 0} (view : X → Level × List ℕ) (inner : ℕ) (r : Result X Stop) → is_nested initial ≡ true → 1 ≤ depth → inner ≡ depth - 1
      → BeginsAs view (skip_nested (skip_item inner) initial) (skip_item inner) behind r → BeginsAs view (skip_item depth) (skip_item (depth - 1)) bytes r
  begins_nested view inner (Ok x) nested some below o = opens_nested inner (view x).0 (view x).1 nested some below o
  begins_nested view inner (Err stop) nested some below e = item_is_nested depth bytes initial behind inner begins nested some below ∙ e

pub begins_shorter : {X : Type 0} (view : X → Level × List ℕ) (skip item : Skip) (bytes behind : List ℕ) (initial : ℕ) (r : Result X Stop) → initial_at bytes ≡ Ok (initial, behind)
    → BeginsAs view skip item behind r → IfOk r (λ x. length (view x).1 < length bytes)
begins_shorter view skip item bytes behind initial (Ok x) begins o =
    omega (arith, ap length (initial_found bytes initial behind begins).0, ap length o.joined, length-append o.front (view x).1)
begins_shorter view skip item bytes behind initial (Err stop) begins e = tt

-- ---- levels

abbrev stack : Level → List Level → List Level
stack here around = here ∷ reverse around

pub done_is : (level : Level) → is_done level ≡ true → level ≡ Items 0
done_is (Items count) e = ap (λ (n : ℕ). Items n) (eqb-true count 0 e)
done_is Value e = absurd cc
done_is (ToBreak thing) e = absurd cc

pub not_done : (level : Level) → is_done level ≡ false → level ≡ Items 0 → ⊥
not_done level e is = let done : is_done level ≡ true = ap is_done is in absurd cc

pub done_skips : (around : List Level) → length around ≡ 0 → (bytes : List ℕ) → skip_open (stack (Items 0) around) bytes ≡ Ok bytes
unfolding skip_open skip_row
done_skips [] none bytes = refl
done_skips (level ∷ around) none bytes = absurd (omega arith)

pushed : (after : Level) (around : List Level) → reverse (around ++ after ∷ []) ≡ after ∷ reverse around
pushed after around = reverse-append around (after ∷ [])

pub opened_skips : (inner after : Level) (around : List Level) (bytes : List ℕ)
    → (skip_level (skip_item (level_limit - length (reverse around) - 1)) inner bytes >>= skip_open (after ∷ reverse around)) ≡ skip_open (stack inner (around ++ after ∷ [])) bytes
unfolding skip_open
opened_skips inner after around bytes =
    let less : level_limit - length (reverse around) - 1 ≡ level_limit - length (after ∷ reverse around) = omega arith in
    ap (λ (d : ℕ). skip_level (skip_item d) inner bytes >>= skip_open (after ∷ reverse around)) less
    ∙ ap (λ (x : List Level). skip_open (inner ∷ x) bytes) (sym (pushed after around))

pub nothing_opened : (item : Skip) (after : Level) (around : List Level) (bytes : List ℕ)
    → (skip_level item (Items 0) bytes >>= skip_open (after ∷ reverse around)) ≡ skip_open (stack after around) bytes
unfolding skip_row
nothing_opened item after around bytes = refl

pub left_skips : (level : Level) (old new : List Level) → old ≡ new ++ level ∷ [] → (bytes : List ℕ) → skip_open (stack (Items 0) old) bytes ≡ skip_open (stack level new) bytes
unfolding skip_open skip_row
left_skips level old new popped bytes =
    ap (λ (x : List Level). skip_open (Items 0 ∷ reverse x) bytes) popped
    ∙ ap (λ (x : List Level). skip_open (Items 0 ∷ x) bytes) (pushed level new)

-- ---- steps

pub goes_from : (skip other after : Skip) (bytes rest : List ℕ) → ((b : List ℕ) → skip b ≡ other b) → Goes other bytes after rest → Goes skip bytes after rest
goes_from skip other after bytes rest same g = record { front = g.front; joined = g.joined; same = λ more. same (bytes ++ more) ∙ g.same more }

halted_from : (skip other : Skip) (bytes : List ℕ) (halt : Halt) → ((b : List ℕ) → skip b ≡ other b) → IsHalted other bytes halt → IsHalted skip bytes halt
halted_from skip other bytes (Stopped stop) same h = same bytes ∙ h
halted_from skip other bytes NoMemory same h = tt

pub steps_from : {X : Type 0} (view : X → List ℕ) (skip other after : Skip) (bytes : List ℕ) (r : Result X Halt) → ((b : List ℕ) → skip b ≡ other b)
    → StepsTo view other bytes after r → StepsTo view skip bytes after r
steps_from view skip other after bytes (Ok x) same g = goes_from skip other after bytes (view x) same g
steps_from view skip other after bytes (Err halt) same h = halted_from skip other bytes halt same h

pub goes_nowhere : (skip after : Skip) (bytes : List ℕ) → ((b : List ℕ) → skip b ≡ after b) → Goes skip bytes after bytes
goes_nowhere skip after bytes same = record { front = []; joined = refl; same = λ more. same (bytes ++ more) }

pub goes_then : (skip middle after : Skip) (bytes between rest : List ℕ) → Goes skip bytes middle between → Goes middle between after rest → Goes skip bytes after rest
goes_then skip middle after bytes between rest first second = record {
  front = first.front ++ second.front;
  joined = first.joined ∙ ap (λ (x : List ℕ). first.front ++ x) second.joined ∙ sym (append_assoc first.front second.front rest);
  same = λ more. first.same more ∙ second.same more;
}

module _ (around : List Level) where
  abbrev item_here : Skip
  item_here = skip_item (level_limit - length around)

  pub items_step : (n m : ℕ) → n ≡ suc m → (bytes : List ℕ) → skip_open (Items n ∷ around) bytes ≡ skip_pair item_here (skip_open (Items m ∷ around)) bytes
  unfolding skip_open skip_row
  items_step n m is bytes = rw is (bind_assoc (item_here bytes) (skip_row item_here m) (skip_open around))

  pub value_step : (bytes : List ℕ) → skip_open (Value ∷ around) bytes ≡ skip_pair item_here (skip_open (ToBreak Entry ∷ around)) bytes
  unfolding skip_open
  value_step bytes = bind_assoc (item_here bytes) (λ rest. skip_to_break (skip_pair item_here item_here) (length rest) rest) (skip_open around)

  pub thing_step : (thing : Thing) (first : ℕ) (bytes : List ℕ) → first ≢ 255
      → skip_open (ToBreak thing ∷ around) (first ∷ bytes) ≡ skip_pair (skip_thing item_here thing) (skip_open (ToBreak thing ∷ around)) (first ∷ bytes)
  unfolding skip_open
  thing_step thing first bytes no_break =
      before_break (skip_thing item_here thing) (thing_shortens (level_limit - length around) thing) first bytes (skip_open around) no_break

  pub entry_step : (bytes : List ℕ) → skip_pair (skip_thing item_here Entry) (skip_open (ToBreak Entry ∷ around)) bytes ≡ skip_pair item_here (skip_open (Value ∷ around)) bytes
  unfolding skip_open
  entry_step bytes =
      let entries : Skip = λ rest. skip_to_break (skip_pair item_here item_here) (length rest) rest >>= skip_open around in
      bind_assoc (item_here bytes) item_here entries
      ∙ bind_same (item_here bytes) (λ x. item_here x >>= entries) (skip_open (Value ∷ around)) (λ x e. sym (value_step x))

  pub break_missing : (thing : Thing) → skip_open (ToBreak thing ∷ around) [] ≡ Err stop.More
  unfolding skip_open skip_to_break
  break_missing thing = refl

  pub break_step : (thing : Thing) (rest : List ℕ) → Goes (skip_open (ToBreak thing ∷ around)) (255 ∷ rest) (skip_open (Items 0 ∷ around)) rest
  unfolding skip_open skip_to_break skip_row
  break_step thing rest = record { front = 255 ∷ []; joined = refl; same = λ more. refl }

  pub things_goes : (thing : Thing) (after : Skip) (first : ℕ) (bytes rest : List ℕ) → first ≢ 255
      → Goes (skip_pair (skip_thing item_here thing) (skip_open (ToBreak thing ∷ around))) (first ∷ bytes) after rest
      → Goes (skip_open (ToBreak thing ∷ around)) (first ∷ bytes) after rest
  things_goes thing after first bytes rest no_break g = record {
    front = g.front;
    joined = g.joined;
    same = λ more. thing_step thing first (bytes ++ more) no_break ∙ g.same more;
  }

  pub things_step : {X : Type 0} (view : X → List ℕ) (thing : Thing) (after : Skip) (first : ℕ) (bytes : List ℕ) (r : Result X Halt) → first ≢ 255
      → StepsTo view (skip_pair (skip_thing item_here thing) (skip_open (ToBreak thing ∷ around))) (first ∷ bytes) after r
      → StepsTo view (skip_open (ToBreak thing ∷ around)) (first ∷ bytes) after r
  things_step view thing after first bytes (Ok x) no_break g = things_goes thing after first bytes (view x) no_break g
  things_step view thing after first bytes (Err (Stopped stop)) no_break h = thing_step thing first bytes no_break ∙ h
  things_step view thing after first bytes (Err NoMemory) no_break h = tt

-- ---- an item, and what is behind it

pub item_goes : (item inner after next : Skip) (bytes : List ℕ) (level : Level) (rest : List ℕ) → Opens item inner bytes level rest
    → ((b : List ℕ) → (skip_level inner level b >>= after) ≡ next b) → Goes (skip_pair item after) bytes next rest
item_goes item inner after next bytes level rest o then = record {
  front = o.front;
  joined = o.joined;
  same = λ more. ap (λ r. r >>= after) (o.same more) ∙ then (rest ++ more);
}

pub skip_stops : (item after : Skip) (bytes : List ℕ) (stop : Stop) → item bytes ≡ Err stop → skip_pair item after bytes ≡ Err stop
skip_stops item after bytes stop e = ap (λ r. r >>= after) e

chunk_passes : (major : ℕ) → Skips (IsString major) (skip_chunk major) → (next : Skip) (bytes rest : List ℕ) → skip_chunk major bytes ≡ Ok rest → Goes (skip_pair (skip_chunk major) next) bytes next rest
chunk_passes major s next bytes rest e = record {
  front = (s.found bytes rest e).front;
  joined = (s.found bytes rest e).joined;
  same = λ more. ap (λ r. r >>= next) (passes s bytes rest more e);
}

pub chunk_goes : (next : Skip) (bytes rest : List ℕ) → skip_chunk 2 bytes ≡ Ok rest → Goes (skip_pair (skip_chunk 2) next) bytes next rest
chunk_goes next bytes rest e = chunk_passes 2 (skips_chunk 2 refl) next bytes rest e

pub text_goes : (next : Skip) (bytes rest : List ℕ) → skip_chunk 3 bytes ≡ Ok rest → Goes (skip_pair (skip_chunk 3) next) bytes next rest
text_goes next bytes rest e = chunk_passes 3 (skips_chunk 3 refl) next bytes rest e

pub chunk_shorter : (bytes rest : List ℕ) → skip_chunk 2 bytes ≡ Ok rest → length rest < length bytes
chunk_shorter = thing_shortens 0 ByteChunk

pub text_shorter : (bytes rest : List ℕ) → skip_chunk 3 bytes ≡ Ok rest → length rest < length bytes
text_shorter = thing_shortens 0 TextChunk

-- ---- the whole scan

pub first_place : (bytes : List ℕ) → HasSeen (record { passed = 0; levels = Items 1 ∷ [] }) bytes
unfolding skip_open skip_row
first_place bytes = record {
  within = omega arith;
  goes_on = λ more. sym (bind_nothing (skip_item level_limit (bytes ++ more) >>= λ x. Ok x) ∙ bind_nothing (skip_item level_limit (bytes ++ more)));
}

-- what was seen stays seen where more bytes come
pub stays_seen : (place : Place) (bytes more : List ℕ) → HasSeen place bytes → HasSeen place (bytes ++ more)
stays_seen place bytes more seen = record {
  within = omega (arith, seen.within, length-append bytes more);
  goes_on = λ others. rw (append_assoc bytes more others) (seen.goes_on (more ++ others));
}

module _ (place : Place) (bytes : List ℕ) (seen : HasSeen place bytes) (levels : List Level) (rest : List ℕ)
    (goes : Goes (skip_open place.levels) (drop place.passed bytes) (skip_open levels) rest) where
  pub rest_within : length rest ≤ length bytes
  rest_within = omega (arith, ap length goes.joined, length-append goes.front rest, length-drop place.passed bytes)

  scan_is : (more : List ℕ) → skip_item level_limit (bytes ++ more) ≡ skip_open levels (rest ++ more)
  scan_is more =
      seen.goes_on more ∙ ap (skip_open place.levels) (drop-append-le place.passed bytes more seen.within) ∙ goes.same more

  behind : (more : List ℕ) → drop (length bytes - length rest) (bytes ++ more) ≡ rest ++ more
  behind more =
      let front = take place.passed bytes ++ goes.front in
      let joined : bytes ≡ front ++ rest =
      sym (take-append-drop place.passed bytes) ∙ ap (λ (x : List ℕ). take place.passed bytes ++ x) goes.joined ∙ sym (append_assoc (take place.passed bytes) goes.front rest) in
      let len : length front ≡ length bytes - length rest = omega (arith, ap length joined, length-append front rest) in
      ap (λ (x : List ℕ). drop (length bytes - length rest) (x ++ more)) joined
      ∙ ap (drop (length bytes - length rest)) (append_assoc front rest more)
      ∙ drop_at front (rest ++ more) (length bytes - length rest) len

  pub seen_on : HasSeen (record { passed = length bytes - length rest; levels = levels }) bytes
  seen_on = record {
    within = omega arith;
    goes_on = λ more. scan_is more ∙ ap (skip_open levels) (sym (behind more));
  }

  pub scan_gives : (r : Result (List ℕ) Stop) → skip_open levels rest ≡ r → scan_result bytes r ≡ scan_of bytes
  unfolding scan_of
  scan_gives r e =
      let whole : skip_item level_limit bytes ≡ r =
      ap (skip_item level_limit) (sym (append-nil bytes)) ∙ scan_is [] ∙ ap (skip_open levels) (append-nil rest) ∙ e in
      ap (scan_result bytes) (sym whole)

  pub answer_is : {X E : Type 0} (ended : Result X Halt) (result : Result Scan E) → HasEnded (skip_open levels) rest ended
      → AnswersBy (length bytes - length rest) ended result → IfOk result (λ answer. answer ≡ scan_of bytes)
  answer_is ended (Err e) has answers = tt
  answer_is (Ok done) (Ok answer) has answers = let is : answer ≡ scan.Whole (length bytes - length rest) = cc in is ∙ scan_gives (Ok rest) has
  answer_is (Err (Stopped stop.More)) (Ok answer) has answers = let is : answer ≡ scan.More = cc in is ∙ scan_gives (Err stop.More) has
  answer_is (Err (Stopped stop.Bad)) (Ok answer) has answers = let is : answer ≡ scan.Bad = cc in is ∙ scan_gives (Err stop.Bad) has
  answer_is (Err (Stopped stop.Deep)) (Ok answer) has answers = let is : answer ≡ scan.Deep = cc in is ∙ scan_gives (Err stop.Deep) has
  answer_is (Err NoMemory) (Ok answer) has answers = absurd answers
