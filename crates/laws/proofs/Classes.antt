-- Whoever stays in the book keeps the class, and whoever comes is of the class that is brought; and whoever is in it stays, unless an order
-- forgets it.
use Rattle.std.proofs.Common.{◌≡◌, Bool, true, false, Option, Some, None, refl, sym, ◌∙◌, subst, ◌||◌, is_some, arith}
use Rattle.laws.proofs.Words.{false≢true, or_left}
use Rattle.laws.specs.Words.{option_map, Addr, Peer, Forget, peer_is_ordinary, peer_at, Machine}
use Rattle.laws.specs.Acts.{Act, carries, makes_ordinary, does}
use Rattle.laws.specs.CarriedOut.{OnPeer, is_made_ordinary, brings_class, IsOfClass, KeepsClass, forgets, KeepsKnown}
use Rattle.laws.specs.Parts.{IsNext}
use Rattle.laws.proofs.Addresses.{same_address-true}
use Rattle.laws.proofs.Failures.{changed-found}
use Rattle.laws.proofs.Ties.{turns_at-elsewhere}
use Rattle.laws.proofs.Walk.{Finds}
use Rattle.laws.proofs.Books.{goes-each, book-walk}
use Rattle.laws.proofs.Cases.{by_option}

-- ---- a peer, before and after

abbrev Keeps : (Bool → Bool) → Option Peer → Option Peer → Type 0
Keeps brings None None = Unit {0}
Keeps brings None (Some q) = brings q.big ≡ true
Keeps brings (Some p) None = ⊥
Keeps brings (Some p) (Some q) = q.big ≡ p.big

keeps_itself : (brings : Bool → Bool) (o : Option Peer) → Keeps brings o o
keeps_itself brings None = tt
keeps_itself brings (Some p) = refl

keeps_then : (brings : Bool → Bool) (a b c : Option Peer) → Keeps brings a b → Keeps brings b c → Keeps brings a c
keeps_then brings None None c one two = two
keeps_then brings None (Some q) None one two = elim two [ ]
keeps_then brings None (Some q) (Some r) one two = subst (λ big. brings big ≡ true) (sym two) one
keeps_then brings (Some p) None c one two = elim one [ ]
keeps_then brings (Some p) (Some q) None one two = elim two [ ]
keeps_then brings (Some p) (Some q) (Some r) one two = two ∙ one

-- ---- each act

of_kept : (act : Act) (a b : Option Peer) → Keeps (brings_class act) a b → IsOfClass act a b
of_kept act a None h = tt
of_kept act None (Some q) h = h
of_kept act (Some p) (Some q) h = h

class_itself : (act : Act) (o : Option Peer) → IsOfClass act o o
class_itself act o = of_kept act o o (keeps_itself (brings_class act) o)

classed : (act : Act) (m : Machine) → IsNext act m → Finds act m → (addr : Addr) → is_made_ordinary act addr ≡ false → IsOfClass act (peer_at addr m) (peer_at addr (does act m).machine)
classed (carries (Forget a)) m next found addr other =
    goes-each (λ x. IsOfClass (carries (Forget a))) (λ x. class_itself (carries (Forget a))) a m (λ p. tt) addr
classed (makes_ordinary a) m next found addr other = search (arith, turns_at-elsewhere, class_itself)
classed act m next found addr other =
    of_kept act (peer_at addr m) (peer_at addr (does act m).machine) (book-walk act m (λ a. Keeps (brings_class act)) next found (record {
      itself = λ a. keeps_itself (brings_class act);
      joins = λ a. keeps_then (brings_class act);
      changed = λ a p q same. same;
      made = λ a p may. absurd (false≢true may);
      brought = λ big a may. may;
      gone = λ a p may. absurd (false≢true may);
    }) addr)

made : (act : Act) (m : Machine) (addr : Addr) → is_made_ordinary act addr ≡ true → OnPeer (peer_at addr (does act m).machine) (λ p. p.big ≡ false)
made (makes_ordinary a) m addr own =
    subst (λ x. OnPeer (peer_at x (peer_is_ordinary a m).machine) (λ p. p.big ≡ false)) (sym (same_address-true addr a own))
    (subst (λ o. OnPeer o (λ p. p.big ≡ false)) (sym (changed-found a (λ p. record p { big = false }) m (λ p. refl)))
    (by_option (peer_at a m) (λ o. OnPeer (option_map ordinary o) (λ p. p.big ≡ false)) (λ is. tt) (λ p is. refl)))
  where
    ordinary : Peer → Peer
    ordinary p = record p { big = false }
made other m addr own = absurd (false≢true own)

pub keeps-class : (act : Act) (m : Machine) → IsNext act m → Finds act m → KeepsClass act m (does act m).machine
keeps-class act m next found = record { class = classed act m next found; made = made act m }

abbrev Stays : (Addr → Bool) → Addr → Option Peer → Option Peer → Type 0
Stays leaves a before after = is_some before ≡ true → (is_some after || leaves a) ≡ true

stays_then : (leaves : Addr → Bool) (a : Addr) (o p q : Option Peer) → Stays leaves a o p → Stays leaves a p q → Stays leaves a o q
stays_then leaves a o p q one two known = grind (arith, one known, two)

pub keeps-known : (act : Act) (m : Machine) → IsNext act m → Finds act m → KeepsKnown act m (does act m).machine
keeps-known act m next found = book-walk act m (Stays (forgets act)) next found (record {
  itself = λ a o known. or_left (is_some o) (forgets act a) known;
  joins = stays_then (forgets act);
  changed = λ a p q same known. refl;
  made = λ a p may known. refl;
  brought = λ big a may known. refl;
  gone = λ a p may known. may;
})
