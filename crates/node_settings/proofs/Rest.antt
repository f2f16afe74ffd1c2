-- The items of an array, of which some are read already.
use Rattle.std.proofs.Common.{◌≡◌, ℕ, ◌+◌, ◌<◌, ◌≤◌, List, [], ◌∷◌, ◌++◌, length, Option, Some, None, get_or, drop, Result, Ok, Err, zero-add, add-zero, add_assoc, refl, sym, ap, ◌∙◌, subst}
use Rattle.std.specs.List.{cons_option}
use Rattle.std.specs.Option.{option_to_list}
use Rattle.std.proofs.lemmas.List.{at_drop_more, at_drop_all, append_assoc, append-nil}
use Rattle.serde_json.specs.Data.{Data, item}
use Rattle.serde_json.specs.View.{view, items_view}
use Rattle.serde_json.specs.declared.value.Value.{Value}
use Rattle.net_base.specs.declared.settings.Field.{Field}
use Rattle.node_settings.specs.Reading.{◌>>=◌}
use Rattle.net_base.specs.declared.address.Addr.{Addr}
use Rattle.node_settings.specs.declared.topology_refusal.TopologyRefusal.{TopologyRefusal}
use Rattle.node_settings.specs.declared.topology_refusal.TopologyRefusal.TheVariants.{BadJson, BadSetting, OutOfMemory}
use Rattle.node_settings.specs.Topology.{each_of, Point, addresses_of, unresolved_of, add_local, add_public, IsPartOr}

-- How what was read is joined with what the rest gives.
pub record Joins {A B : Type 0} (add : A → B → B) (none : B) : Type 0 where
  pub join : B → B → B
  pub push : B → A → B
  pub none_first : (all : B) → join none all ≡ all
  pub none_last : (all : B) → join all none ≡ all
  pub pushed : (front : B) (value : A) (rest : B) → join (push front value) rest ≡ join front (add value rest)

-- a list of what is read
abbrev pub lists : {A : Type 0} → Joins {A = A} {B = List A} (λ x xs. x ∷ xs) []
lists = record {
  join = λ xs ys. xs ++ ys;
  push = λ xs x. xs ++ x ∷ [];
  none_first = λ xs. refl;
  none_last = append-nil;
  pushed = λ xs x ys. append_assoc xs (x ∷ []) ys;
}

-- groups of local roots, counted
abbrev pub locals : Joins add_local ([], 0)
locals = record {
  join = λ front rest. (front.0 ++ rest.0, front.1 + rest.1);
  push = λ front root. (front.0 ++ root.0 ∷ [], front.1 + root.1);
  none_first = λ all. λ i. (all.0, zero-add all.1 i);
  none_last = λ all. λ i. (append-nil all.0 i, add-zero all.1 i);
  pushed = λ front root rest. λ i. (append_assoc front.0 (root.0 ∷ []) rest.0 i, add_assoc front.1 root.1 rest.1 i);
}

-- addresses of public roots, counted
abbrev pub publics : Joins add_public ([], 0)
publics = record {
  join = λ front rest. (front.0 ++ rest.0, front.1 + rest.1);
  push = λ front points. (front.0 ++ addresses_of points, front.1 + unresolved_of points);
  none_first = λ all. λ i. (all.0, zero-add all.1 i);
  none_last = λ all. λ i. (append-nil all.0 i, add-zero all.1 i);
  pushed = λ front points rest. λ i. (append_assoc front.0 (addresses_of points) rest.0 i, add_assoc front.1 (unresolved_of points) rest.1 i);
}

module _ {A B : Type 0} (read : Data → Result A Field) (add : A → B → B) (none : B) (joins : Joins add none) where
  -- what was read, with what the rest gives
  abbrev pub behind : B → Result B Field → Result B Field
  behind front (Ok rest) = Ok (joins.join front rest)
  behind front (Err field) = Err field

  -- with the items from a place on
  abbrev pub from_place : B → ℕ → List Value → Result B Field
  from_place front i values = behind front (each_of read add none (items_view (drop i values)))

  first_is : (all : Result B Field) → behind none all ≡ all
  first_is (Ok all) = ap Ok (joins.none_first all)
  first_is (Err field) = refl

  pub at_start : (values : List Value) → from_place none 0 values ≡ each_of read add none (items_view values)
  at_start values = first_is (each_of read add none (items_view values))

  more_by : (front : B) (value : A) (rest : Result B Field) → behind front (rest >>= (λ all. Ok (add value all))) ≡ behind (joins.push front value) rest
  more_by front value (Ok rest) = ap Ok (sym (joins.pushed front value rest))
  more_by front value (Err field) = refl

  step : (front : B) (i : ℕ) (values : List Value) (other : Value) → i < length values
      → from_place front i values ≡ behind front (read (view (get_or values i other)) >>= (λ value. each_of read add none (items_view (drop (i + 1) values)) >>= (λ rest. Ok (add value rest))))
  step front i values other within = at_drop_more (λ rest. behind front (each_of read add none (items_view rest))) values i other within

  pub at_more : (front : B) (i : ℕ) (values : List Value) (other : Value) (value : A) → i < length values → read (view (get_or values i other)) ≡ Ok value
      → from_place front i values ≡ from_place (joins.push front value) (i + 1) values
  at_more front i values other value within is =
      step front i values other within
      ∙ ap (λ (o : Result A Field). behind front (o >>= (λ value. each_of read add none (items_view (drop (i + 1) values)) >>= (λ rest. Ok (add value rest))))) is
      ∙ more_by front value (each_of read add none (items_view (drop (i + 1) values)))

  pub at_wrong : (front : B) (i : ℕ) (values : List Value) (other : Value) (field : Field) → i < length values → read (view (get_or values i other)) ≡ Err field
      → from_place front i values ≡ Err field
  at_wrong front i values other field within is =
      step front i values other within
      ∙ ap (λ (o : Result A Field). behind front (o >>= (λ value. each_of read add none (items_view (drop (i + 1) values)) >>= (λ rest. Ok (add value rest))))) is

  -- the same of a refusal that may be for want of memory
  pub at_refused : (front : B) (i : ℕ) (values : List Value) (other : Value) (refusal : TopologyRefusal) → i < length values
      → IsPartOr (read (view (get_or values i other))) (Err refusal) → IsPartOr (from_place front i values) (Err refusal)
  at_refused front i values other BadJson within is = is
  at_refused front i values other (BadSetting field) within is = at_wrong front i values other field within is
  at_refused front i values other OutOfMemory within is = tt

  pub at_end : (front : B) (i : ℕ) (values : List Value) → length values ≤ i → from_place front i values ≡ Ok front
  at_end front i values past =
      at_drop_all (λ rest. behind front (each_of read add none (items_view rest))) values i past ∙ ap Ok (joins.none_last front)

-- ---- addresses of points

-- some addresses, and those of the points from a place on
abbrev pub with_addresses : List Addr → ℕ → List Point → List Addr
with_addresses front i points = front ++ addresses_of (drop i points)

one_more : (front : List Addr) (point : Point) (rest : List Addr) → front ++ cons_option point rest ≡ (front ++ option_to_list point) ++ rest
one_more front None rest = ap (λ xs. xs ++ rest) (sym (append-nil front))
one_more front (Some address) rest = sym (append_assoc front (address ∷ []) rest)

pub with_addresses-more : (front : List Addr) (i : ℕ) (points : List Point) (point : Point) → i < length points → get_or points i point ≡ point
    → with_addresses front i points ≡ with_addresses (front ++ option_to_list point) (i + 1) points
with_addresses-more front i points point within is =
    at_drop_more (λ rest. front ++ addresses_of rest) points i point within
    ∙ ap (λ p. front ++ cons_option p (addresses_of (drop (i + 1) points))) is
    ∙ one_more front point (addresses_of (drop (i + 1) points))

pub with_addresses-end : (front : List Addr) (i : ℕ) (points : List Point) → length points ≤ i → with_addresses front i points ≡ front
with_addresses-end front i points past = at_drop_all (λ rest. front ++ addresses_of rest) points i past ∙ append-nil front
