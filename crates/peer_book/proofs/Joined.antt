-- The rows and the counts, after addresses came in together.
use Rattle.std.proofs.Common.{◌≡◌, ℕ, suc, ◌+◌, Bool, true, false, List, [], ◌∷◌, length, refl, sym, ap, ◌∙◌, arith}
use Rattle.net_base.specs.declared.address.Addr.{Addr}
use Rattle.net_base.specs.declared.peer.Peer.{Peer}
use Rattle.net_base.specs.declared.peer.Temp.{Temp}
use Rattle.net_base.specs.declared.peer.Temp.TheVariants.{Cold}
use Rattle.peer_book.specs.Book.{new_peer, same_temp, listed_at}
use Rattle.peer_book.specs.Newcomers.{with_all_new}
use Rattle.peer_book.specs.Order.{IsRising}
use Rattle.peer_book.specs.Tallies.{tally_of, tallied, tallied_by, more_cold}
use Rattle.peer_book.specs.declared.tally.Tally.{Tally}
use Rattle.peer_book.proofs.ComingIn.{InOrder-with_all}
use Rattle.peer_book.proofs.Counting.{tally-with_new}
use Rattle.peer_book.proofs.Listing.{InOrder, listed-with_new}
use Rattle.peer_book.proofs.Merging.{AreAbsent}

-- the new ones are cold, so no other row changes
pub listed-with_all : (big : Bool) (temp : Temp) (addrs : List Addr) (peers : List Peer) → same_temp Cold temp ≡ false →
    InOrder peers → IsRising (λ a. a) addrs → AreAbsent addrs peers → listed_at temp (with_all_new big addrs peers) ≡ listed_at temp peers
listed-with_all big temp [] peers other ordered rising absent = refl
listed-with_all big temp (a ∷ addrs) peers other ordered rising absent =
    listed-with_new temp (new_peer big a) (with_all_new big addrs peers) (InOrder-with_all big addrs peers ordered rising.1 absent.1)
    ∙ rw other (listed-with_all big temp addrs peers other ordered rising.1 absent.1)

and_none : (n : ℕ) → n ≡ n + 0
and_none n = omega arith

one_later : (k n : ℕ) → (k + n) + 1 ≡ k + suc n
one_later k n = omega arith

no_more : (big : Bool) (tally : Tally) → tally ≡ more_cold big 0 tally
no_more true tally = λ i. record { ordinary = tally.ordinary; big = record { known = and_none tally.big.known i; established = tally.big.established; active = tally.big.active } }
no_more false tally = λ i. record { ordinary = record { known = and_none tally.ordinary.known i; established = tally.ordinary.established; active = tally.ordinary.active }; big = tally.big }

one_more_cold : (big : Bool) (n : ℕ) (tally : Tally) → tallied_by big Cold (more_cold big n tally) ≡ more_cold big (suc n) tally
one_more_cold true n tally = λ i. record {
  ordinary = tally.ordinary;
  big = record { known = one_later tally.big.known n i; established = sym (and_none tally.big.established) i; active = sym (and_none tally.big.active) i };
}
one_more_cold false n tally = λ i. record {
  ordinary = record { known = one_later tally.ordinary.known n i; established = sym (and_none tally.ordinary.established) i; active = sym (and_none tally.ordinary.active) i };
  big = tally.big;
}

pub tally-with_all : (big : Bool) (addrs : List Addr) (peers : List Peer) → tally_of (with_all_new big addrs peers) ≡ more_cold big (length addrs) (tally_of peers)
tally-with_all big [] peers = no_more big (tally_of peers)
tally-with_all big (a ∷ addrs) peers =
    tally-with_new (new_peer big a) (with_all_new big addrs peers)
    ∙ (ap (tallied (new_peer big a)) (tally-with_all big addrs peers) ∙ one_more_cold big (length addrs) (tally_of peers))
