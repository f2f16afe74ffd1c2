-- The counts, after a change of the peers.
use Rattle.std.proofs.Common.{◌≡◌, ℕ, ◌+◌, ◌&&◌, Bool, true, false, cond, List, [], ◌∷◌, ◌++◌, Some, refl, sym, ap, ◌∙◌, inl, inr, arith}
use Rattle.std.specs.List.{count_by}
use Rattle.std.proofs.lemmas.Bool.{cases_Bool}
use Rattle.std.proofs.lemmas.List.Sums.{sum_by-append, sum_by-cons}
use Rattle.net_base.specs.declared.address.Addr.{Addr}
use Rattle.net_base.specs.declared.peer.Peer.{Peer}
use Rattle.net_base.specs.declared.peer.Temp.{Temp}
use Rattle.peer_book.specs.Book.{peer_at, without_peer, with_new, is_of, is_established, is_active}
use Rattle.peer_book.specs.Tallies.{counts_of, tally_of, one_more, tallied, tallied_by}
use Rattle.peer_book.specs.declared.tally.Counts.{Counts}
use Rattle.peer_book.specs.declared.tally.Tally.{Tally}
use Rattle.peer_book.proofs.Edits.{count_by-put_in, count_by-taken_out}
use Rattle.peer_book.proofs.Listing.{InOrder, address_of}

abbrev of_class : Bool → (Temp → Bool) → Peer → Bool
of_class big p peer = is_of big peer && p peer.temp

-- one more, where the class is the peer's
class_more : (b c : Bool) (n : ℕ) → b ≡ true → n + cond (b && c) 1 0 ≡ n + cond c 1 0
class_more b c n h = rw h refl

class_none : (b c : Bool) (n : ℕ) → b ≡ false → n + cond (b && c) 1 0 ≡ n
class_none b c n h = rw h (omega arith)

more : (b : Bool) (n : ℕ) → b ≡ true → n + cond b 1 0 ≡ n + 1
more b n h = rw h refl

none : (b : Bool) (n : ℕ) → b ≡ false → n + cond b 1 0 ≡ n
none b n h = rw h (omega arith)

-- ---- one more peer

-- one list has a peer more than another, whatever is counted
abbrev pub HasOneMore : Peer → List Peer → List Peer → Type 0
HasOneMore new peers after = (p : Peer → Bool) → count_by p after ≡ count_by p peers + cond (p new) 1 0

counts-more : (big : Bool) (new : Peer) (peers after : List Peer) → HasOneMore new peers after → is_of big new ≡ true →
    counts_of big after ≡ one_more new.temp (counts_of big peers)
counts-more big new peers after one class = λ i. record {
  known = (one (is_of big) ∙ more (is_of big new) _ class) i;
  established = (one (of_class big is_established) ∙ class_more (is_of big new) _ _ class) i;
  active = (one (of_class big is_active) ∙ class_more (is_of big new) _ _ class) i;
}

counts-other : (big : Bool) (new : Peer) (peers after : List Peer) → HasOneMore new peers after → is_of big new ≡ false →
    counts_of big after ≡ counts_of big peers
counts-other big new peers after one class = λ i. record {
  known = (one (is_of big) ∙ none (is_of big new) _ class) i;
  established = (one (of_class big is_established) ∙ class_none (is_of big new) _ _ class) i;
  active = (one (of_class big is_active) ∙ class_none (is_of big new) _ _ class) i;
}

tally-more : (new : Peer) (peers after : List Peer) → HasOneMore new peers after → tally_of after ≡ tallied new (tally_of peers)
tally-more new peers after one = elim (cases_Bool new.big) [
  | inl big ↦
      (λ i. record {
        ordinary = counts-other false new peers after one (rw big refl) i;
        big = counts-more true new peers after one big i;
      }) ∙ sym (ap (λ b. tallied_by b new.temp (tally_of peers)) big)
  | inr ordinary ↦
      (λ i. record {
        ordinary = counts-more false new peers after one (rw ordinary refl) i;
        big = counts-other true new peers after one ordinary i;
      }) ∙ sym (ap (λ b. tallied_by b new.temp (tally_of peers)) ordinary)
]

pub tally-with_new : (new : Peer) (peers : List Peer) → tally_of (with_new new peers) ≡ tallied new (tally_of peers)
tally-with_new new peers = tally-more new peers (with_new new peers) (λ p. count_by-put_in address_of p new peers)

pub tally-push : (peers : List Peer) (new : Peer) → tally_of (peers ++ new ∷ []) ≡ tallied new (tally_of peers)
tally-push peers new = tally-more new peers (peers ++ new ∷ []) (λ p. at_end p)
  where
    at_end : (p : Peer → Bool) → count_by p (peers ++ new ∷ []) ≡ count_by p peers + cond (p new) 1 0
    at_end p = let f : Peer → ℕ = λ x. cond (p x) 1 0 in sum_by-append f peers (new ∷ []) ∙ omega (arith, sum_by-cons f new [])

-- ---- one peer less

counts-without : (big : Bool) (addr : Addr) (old : Peer) (peers : List Peer) → InOrder peers → peer_at addr peers ≡ Some old → is_of big old ≡ true →
    counts_of big peers ≡ one_more old.temp (counts_of big (without_peer addr peers))
counts-without big addr old peers rises found class = λ i. record {
  known = (count_by-taken_out address_of (is_of big) addr old peers rises found ∙ more (is_of big old) _ class) i;
  established = (count_by-taken_out address_of (of_class big is_established) addr old peers rises found ∙ class_more (is_of big old) _ _ class) i;
  active = (count_by-taken_out address_of (of_class big is_active) addr old peers rises found ∙ class_more (is_of big old) _ _ class) i;
}

counts-without_other : (big : Bool) (addr : Addr) (old : Peer) (peers : List Peer) → InOrder peers → peer_at addr peers ≡ Some old → is_of big old ≡ false →
    counts_of big peers ≡ counts_of big (without_peer addr peers)
counts-without_other big addr old peers rises found class = λ i. record {
  known = (count_by-taken_out address_of (is_of big) addr old peers rises found ∙ none (is_of big old) _ class) i;
  established = (count_by-taken_out address_of (of_class big is_established) addr old peers rises found ∙ class_none (is_of big old) _ _ class) i;
  active = (count_by-taken_out address_of (of_class big is_active) addr old peers rises found ∙ class_none (is_of big old) _ _ class) i;
}

pub tally-without : (addr : Addr) (old : Peer) (peers : List Peer) → InOrder peers → peer_at addr peers ≡ Some old →
    tally_of peers ≡ tallied old (tally_of (without_peer addr peers))
tally-without addr old peers rises found = elim (cases_Bool old.big) [
  | inl big ↦
      (λ i. record {
        ordinary = counts-without_other false addr old peers rises found (rw big refl) i;
        big = counts-without true addr old peers rises found big i;
      }) ∙ sym (ap (λ b. tallied_by b old.temp (tally_of (without_peer addr peers))) big)
  | inr ordinary ↦
      (λ i. record {
        ordinary = counts-without false addr old peers rises found (rw ordinary refl) i;
        big = counts-without_other true addr old peers rises found ordinary i;
      }) ∙ sym (ap (λ b. tallied_by b old.temp (tally_of (without_peer addr peers))) ordinary)
]

-- ---- what is left is told by what it was

one_less : (a b n : ℕ) → a + n ≡ b + n → a ≡ b
one_less a b n h = omega arith

one_more-same : (temp : Temp) (c d : Counts) → one_more temp c ≡ one_more temp d → c ≡ d
one_more-same temp c d h = λ i. record {
  known = one_less c.known d.known 1 (ap (λ k. k.known) h) i;
  established = one_less c.established d.established (cond (is_established temp) 1 0) (ap (λ k. k.established) h) i;
  active = one_less c.active d.active (cond (is_active temp) 1 0) (ap (λ k. k.active) h) i;
}

tallied_by-same : (big : Bool) (temp : Temp) (s t : Tally) → tallied_by big temp s ≡ tallied_by big temp t → s ≡ t
tallied_by-same true temp s t h = λ i. record { ordinary = ap (λ k. k.ordinary) h i; big = one_more-same temp s.big t.big (ap (λ k. k.big) h) i }
tallied_by-same false temp s t h = λ i. record { ordinary = one_more-same temp s.ordinary t.ordinary (ap (λ k. k.ordinary) h) i; big = ap (λ k. k.big) h i }

pub tallied-same : (peer : Peer) (s t : Tally) → tallied peer s ≡ tallied peer t → s ≡ t
tallied-same peer s t h = tallied_by-same peer.big peer.temp s t h
