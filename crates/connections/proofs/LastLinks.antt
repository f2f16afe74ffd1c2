-- The last link of an address is that of the newest connection that has it.
use Rattle.std.proofs.Common.{◌≡◌, ℕ, Bool, ◌||◌, List, [], ◌∷◌, map, is_some, refl, sym, ap, ◌∙◌, inl, inr}
use Rattle.std.specs.List.{find, list_any}
use Rattle.std.specs.Option.{option_map}
use Rattle.std.proofs.lemmas.Bool.{cases_Bool}
use Rattle.conn_table.specs.Finds.{newest}
use Rattle.conn_table.specs.Index.{IsRising as AreRising, placed_below, same_placed, placed_of, stands, index_of, last_at}
use Rattle.conn_table.specs.Table.{IdsRise}
use Rattle.conn_table.specs.declared.placed.Placed.{Placed}
use Rattle.conn_table.proofs.IndexFacts.{index_rises, last_at-index, stands-put_in}
use Rattle.govern_rules.specs.declared.link.Link.{Link}
use Rattle.links.specs.Link.{place_of}
use Rattle.links.specs.Rows.{AreInOrder}
use Rattle.links.proofs.LinkEdits.{placed_order}
use Rattle.machine.specs.Govern.{link_of}
use Rattle.net_base.specs.declared.address.Addr.{Addr}
use Rattle.net_base.specs.declared.connection.Facts.{Facts}
use Rattle.timer_queue.specs.Order.{IsRising}
use Rattle.timer_queue.proofs.Rising.{IsRising-map, rising_is_one}
use Rattle.connections.specs.Linked.{IsLinked}
use Rattle.connections.specs.Standing.{Standing, facts_in}

any-map : {A B : Type 0} (p : B → Bool) (f : A → B) (xs : List A) → list_any p (map f xs) ≡ list_any (λ x. p (f x)) xs
any-map p f [] = refl
any-map p f (x ∷ xs) = ap (λ b. p (f x) || b) (any-map p f xs)

any-find : (p : Placed → Bool) (ps : List Placed) → is_some (find p ps) ≡ list_any p ps
any-find p [] = refl
any-find p (q ∷ qs) = elim (cases_Bool (p q)) [
  | inl passes ↦ rw passes refl
  | inr fails ↦ rw fails (any-find p qs)
]

stands-index : (k : Placed) (fs : List Facts) → stands k (index_of fs) ≡ list_any (λ f. same_placed (placed_of f) k) fs
stands-index k [] = refl
stands-index k (f ∷ fs) = stands-put_in k (placed_of f) (index_of fs) ∙ ap (λ b. same_placed (placed_of f) k || b) (stands-index k fs)

rise : (ps : List Placed) → AreRising ps → IsRising placed_below (λ p. p) ps
rise [] h = tt
rise (p ∷ ps) h = (h.0, rise ps h.1)

-- the addresses and ids of the links are the index of the connections
places-index : (links : List Link) (s : Standing) (most : ℕ) → AreInOrder links → IsLinked s links → IdsRise 0 most (facts_in s) →
    map place_of links ≡ index_of (facts_in s)
places-index links s most ordered linked rises =
    rising_is_one placed_below same_placed placed_order (map place_of links) (index_of (facts_in s))
    (IsRising-map placed_below same_placed placed_order place_of links ordered)
    (rise (index_of (facts_in s)) (index_rises 0 most (facts_in s) rises))
    (λ k. any-map (λ p. same_placed p k) place_of links
    ∙ (linked (λ l. same_placed (place_of l) k)
    ∙ (any-map (λ l. same_placed (place_of l) k) link_of s.entries
    ∙ (sym (any-map (λ f. same_placed (placed_of f) k) (λ e. e.facts) s.entries)
    ∙ (sym (stands-index k (facts_in s)) ∙ any-find (λ p. same_placed p k) (index_of (facts_in s)))))))

pub last-newest : (addr : Addr) (links : List Link) (s : Standing) (most : ℕ) → AreInOrder links → IsLinked s links → IdsRise 0 most (facts_in s) →
    last_at addr (map place_of links) ≡ option_map placed_of (newest addr (facts_in s))
last-newest addr links s most ordered linked rises =
    ap (last_at addr) (places-index links s most ordered linked rises) ∙ last_at-index addr 0 most (facts_in s) rises
