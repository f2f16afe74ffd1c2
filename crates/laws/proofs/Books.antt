-- The peer of each address before and after: a relation between the two that everyone has to itself, and that each change of the book keeps.
use Rattle.std.proofs.Common.{◌≡◌, Bool, true, false, Option, Some, None, refl, sym, subst}
use Rattle.laws.proofs.Words.{cond_both}
use Rattle.laws.specs.Words.{option_map, same_address, Addr, Facts, Peer, CloseCause, Overwritten, failed_peer, new_peer, lost, is_missed, ending, without_entry, entry_turns, entry_goes, dial, admitted, nothing_more, peer_fails, peer_changes, peer_comes, peer_goes, peer_at, Machine, Entry}
use Rattle.peer_book.specs.Book.{peer_at as peer_in, with_new as with_new_in}
use Rattle.laws.specs.Acts.{Act, shows, asks_for_roots, sets_targets, sets_big_targets, sets_groups, sets_roots, does}
use Rattle.laws.specs.Parts.{IsNext}
use Rattle.laws.proofs.CarriedOut.{treats-book}
use Rattle.laws.proofs.Cases.{by_option}
use Rattle.laws.proofs.Failures.{changed-found}
use Rattle.laws.proofs.Lawful.{comes-machine}
use Rattle.laws.proofs.PeersApart.{by_address, entered-cases}
use Rattle.laws.proofs.Ties.{put_in-elsewhere, put_in-here, taken-elsewhere, taken-here, turns_at-elsewhere, none_there}
use Rattle.laws.proofs.Walk.{Finds, Scope, turned_by, shuts, Kept, scope_of, walk}

abbrev pub AtEach : (Addr → Option Peer → Option Peer → Type 0) → Machine → Machine → Type 0
AtEach R m n = (a : Addr) → R a (peer_at a m) (peer_at a n)

module _ (R : Addr → Option Peer → Option Peer → Type 0) (itself : (a : Addr) (o : Option Peer) → R a o o) where
  pub same-each : (m n : Machine) → n.peers ≡ m.peers → AtEach R m n
  same-each m n same a = subst (λ ps. R a (peer_at a m) (peer_in a ps)) (sym same) (itself a (peer_at a m))

  -- at one address, and at all others where it is as it was
  own-each : (a : Addr) (m n : Machine) → R a (peer_at a m) (peer_at a n) → ((b : Addr) → same_address b a ≡ false → peer_at b n ≡ peer_at b m) → AtEach R m n
  own-each a m n own others = by_address (λ b. R b (peer_at b m) (peer_at b n)) a own (λ b other. subst (R b (peer_at b m)) (sym (others b other)) (itself b (peer_at b m)))

  pub changed-each : (a : Addr) (change : Peer → Peer) (m : Machine) → ((p : Peer) → (change p).addr ≡ p.addr) → ((p : Peer) → R a (Some p) (Some (change p))) →
      AtEach R m (peer_changes a change m).machine
  changed-each a change m same each = own-each a m (peer_changes a change m).machine
      (subst (R a (peer_at a m)) (sym (changed-found a change m same)) (by_option (peer_at a m) (λ o. R a o (option_map change o)) (λ is. itself a None) (λ p is. each p)))
      (turns_at-elsewhere a change m same)

  pub comes-each : (big : Bool) (a : Addr) (m : Machine) → R a None (Some (new_peer big a)) → AtEach R m (peer_comes big a m).machine
  comes-each big a m new = subst (AtEach R m) (sym (comes-machine big a m)) (entered-cases (new_peer big a) m.peers (λ ps. AtEach R m (record m { peers = ps }))
      (same-each m m refl)
      (λ absent room.
      let none : peer_at a m ≡ None = none_there (peer_at a m) absent in
      own-each a m (record m { peers = with_new_in (new_peer big a) m.peers })
      (subst (λ o. R a o (peer_in a (with_new_in (new_peer big a) m.peers))) (sym none) (subst (R a None) (sym (put_in-here (new_peer big a) m.peers none)) new))
      (λ b other. put_in-elsewhere (new_peer big a) b m.peers other)))

  pub goes-each : (a : Addr) (m : Machine) → ((p : Peer) → R a (Some p) None) → AtEach R m (peer_goes a m).machine
  goes-each a m each = own-each a m (peer_goes a m).machine
      (subst (R a (peer_at a m)) (sym (taken-here a m.peers)) (by_option (peer_at a m) (λ o. R a o None) (λ is. itself a None) (λ p is. each p)))
      (λ b other. taken-elsewhere a b m.peers other)

-- ---- a part

-- it holds of whoever changes but for the class, and of whoever is made ordinary, comes or goes as a part may have it
pub record IsKept (scope : Scope) (R : Addr → Option Peer → Option Peer → Type 0) : Type 0 where
  pub itself : (a : Addr) (o : Option Peer) → R a o o
  pub joins : (a : Addr) (o p q : Option Peer) → R a o p → R a p q → R a o q
  pub changed : (a : Addr) (p q : Peer) → q.big ≡ p.big → R a (Some p) (Some q)
  pub made : (a : Addr) (p : Peer) → scope.makes ≡ true → R a (Some p) (Some (record p { big = false }))
  pub brought : (big : Bool) (a : Addr) → scope.brings big ≡ true → R a None (Some (new_peer big a))
  pub gone : (a : Addr) (p : Peer) → scope.forgets a ≡ true → R a (Some p) None

module _ (scope : Scope) (R : Addr → Option Peer → Option Peer → Type 0) (h : IsKept scope R) where
  lost-each : (f : Facts) (m : Machine) → AtEach R m (lost f m).machine
  lost-each f m = cond_both (is_missed f) (peer_fails f.addr m) (nothing_more m) (λ effect. AtEach R m effect.machine)
      (λ missed. changed-each R h.itself f.addr (failed_peer m.now m.settings.backoff) m (λ p. refl) (λ p. h.changed f.addr p _ refl))
      (λ other. same-each R h.itself m m refl)

  ending-each : (cause : CloseCause) (e : Entry) (m : Machine) → AtEach R m (ending cause e m).machine
  ending-each Overwritten e m = same-each R h.itself m (ending Overwritten e m).machine refl
  ending-each other e m = lost-each e.facts (without_entry e.facts.cid.0 m)

  book-kept : Kept scope (λ m effect. AtEach R m effect.machine)
  book-kept = record {
    when_nothing = λ m. same-each R h.itself m m refl;
    when_both = λ m first next one two a. h.joins a (peer_at a m) (peer_at a first.machine) (peer_at a (next first.machine).machine) (one a) (two a);
    when_moved = λ happened m effect none holds. holds;
    when_sent = λ cid bytes m may. same-each R h.itself m m refl;
    when_turned = λ turn e m stands. same-each R h.itself m (entry_turns e (turned_by turn e m) m).machine refl;
    when_stored = λ undecoded e m stands came. same-each R h.itself m (entry_turns e (record e { undecoded = undecoded }) m).machine refl;
    when_shut = λ e m stands drops. same-each R h.itself m (shuts e m).machine refl;
    when_ended = λ cause e m. ending-each cause e m;
    when_gone = λ e m itself. lost-each e.facts (without_entry e.facts.cid.0 m);
    when_over = λ e m stands drops closed. same-each R h.itself m (entry_goes e m).machine refl;
    when_dialed = λ addr m may. same-each R h.itself m (dial addr m).machine refl;
    when_admitted = λ addr m may. same-each R h.itself m (admitted addr m).machine refl;
    when_turned_away = λ away m may. same-each R h.itself m m refl;
    when_changed = λ addr change m same. changed-each R h.itself addr change m (λ p. (same p).0) (λ p. h.changed addr p (change p) (same p).1);
    when_made = λ addr m may. changed-each R h.itself addr (λ p. record p { big = false }) m (λ p. refl) (λ p. h.made addr p may);
    when_known = λ big addr m may. comes-each R h.itself big addr m (h.brought big addr may);
    when_forgotten = λ addr m may. goes-each R h.itself addr m (λ p. h.gone addr p may);
  }

pub book-walk : (act : Act) (m : Machine) (R : Addr → Option Peer → Option Peer → Type 0) → IsNext act m → Finds act m → IsKept (scope_of act m) R →
    AtEach R m (does act m).machine
book-walk (shows t) m R next found h = same-each R h.itself m (does (shows t) m).machine refl
book-walk asks_for_roots m R next found h = same-each R h.itself m (does asks_for_roots m).machine (treats-book asks_for_roots m)
book-walk (sets_targets targets) m R next found h = same-each R h.itself m (does (sets_targets targets) m).machine refl
book-walk (sets_big_targets targets) m R next found h = same-each R h.itself m (does (sets_big_targets targets) m).machine refl
book-walk (sets_groups groups) m R next found h = same-each R h.itself m (does (sets_groups groups) m).machine refl
book-walk (sets_roots roots) m R next found h = same-each R h.itself m (does (sets_roots roots) m).machine refl
book-walk act m R next found h = walk act m (λ n effect. AtEach R n effect.machine) tt next found (book-kept (scope_of act m) R h)
