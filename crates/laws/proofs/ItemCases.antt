-- What an item comes to, by cases; and who is pruned.
use Rattle.std.proofs.Common.{ℕ, ◌≡◌, true, false, ◌==◌, if◌then◌else◌, List, [], ◌∷◌, Option, Some, None, Result, Ok, refl, arith}
use Rattle.laws.proofs.Words.{cond_both}
use Rattle.laws.specs.Words.{unwrap_or, choice_of, agreed_sharing, watched, Seen, entry_turns, Owed, reply_on, paid, serves, begins, takes_requests, asked_as, answered_as, talks, is_outbound, verdict_of, Acceptor, Dialer, Verdict, message_of, Message, fits_side, Item, Pruned, Fault, FaultKind, Malformed, Protocol, Addr, Cid, Facts, Hot, Share, candidates_in, ending, trim, Effect, nothing_more, then_do, on_connection, for_each, role_of, decided, greets, Machine, Entry, entry_at, own_info, peer_becomes, shares_address, takes_addresses, brings}
use Rattle.laws.specs.Words.message
use Rattle.laws.specs.Ends.{offered, side_of}

-- ---- in the handshake

-- it is a fault, or what it spells is decided on
pub greets-cases : (item : Item) (e : Entry) (m : Machine) (P : Effect → Type 0) → ((fault : FaultKind) → P (ending (Fault fault) e m)) →
    ((msg : Message) → message_of item.body ≡ Some msg → P (decided (verdict_of (role_of e.facts.provenance) (own_info m.settings) msg) e m)) → P (greets item e m)
greets-cases item e m P faults decides = grind arith

fits-side_of : (side : ℕ) (msg : Message) → fits_side Dialer side msg ≡ (side == side_of msg)
fits-side_of side (message.Propose table) = refl
fits-side_of side other = refl

-- The same in the words of laws that say what is due: by who has dialed, and on which side each message is awaited. Given are how
-- what was spelled is read, what is due where a message does not fit, and what for a verdict.
module _ {A : Type 0} (read : Option Message → (Message → A) → A) (wrong : A) (by : Verdict → A) where
  abbrev pub due_of_greeting : Item → Facts → Machine → A
  due_of_greeting item f m =
      let heard : Option Message = message_of item.body in
      if item.id == 0
      then (if is_outbound f then read heard (λ msg. if item.side == side_of msg then by (verdict_of Dialer (offered m.settings) msg) else wrong)
      else (if item.side == 0 then read heard (λ msg. by (verdict_of Acceptor (offered m.settings) msg)) else wrong))
      else wrong

  pub greets-due : (item : Item) (e : Entry) (m : Machine) (P : Effect → A → Type 0) → ((due : Message → A) → P (ending (Fault Malformed) e m) (read None due)) →
      P (ending (Fault Protocol) e m) wrong → ((effect : Effect) (msg : Message) (due : Message → A) → P effect (due msg) → P effect (read (Some msg) due)) →
      ((v : Verdict) → P (decided v e m) (by v)) → P (greets item e m) (due_of_greeting item e.facts m)
  greets-due item e m P malformed protocol spelled decides = grind arith

-- ---- once the handshake is done

-- it is a fault, or is served, or pays what is owed
pub talks-cases : (item : Item) (e : Entry) (m : Machine) (P : Effect → Type 0) → ((fault : FaultKind) → P (ending (Fault fault) e m)) →
    ((item.side == 0) ≡ true → (seen : Seen) → watched item.id (agreed_sharing e.facts.agreed) item.body ≡ Ok seen → takes_requests e ≡ true →
    P (then_do (begins item.id e m) (on_connection e.facts.cid (serves seen item.id)))) →
    ((item.side == 0) ≡ false → (owed : Owed) → reply_on item.id e ≡ Some owed → P (then_do (entry_turns e (paid item.id e) m) (brings item.id item.body e))) → P (talks item e m)
talks-cases item e m P faults asks pays_it =
    cond_both (item.side == 0) (asked_as seen item.id e m) (answered_as (reply_on item.id e) item e m) P (λ first. by_seen first seen refl) (λ second. by_owed second (reply_on item.id e) refl)
  where
    seen : Result Seen FaultKind
    seen = watched item.id (agreed_sharing e.facts.agreed) item.body

    by_seen : (item.side == 0) ≡ true → (r : Result Seen FaultKind) → seen ≡ r → P (asked_as r item.id e m)
    by_seen first r is = grind arith

    by_owed : (item.side == 0) ≡ false → (o : Option Owed) → reply_on item.id e ≡ o → P (answered_as o item e m)
    by_owed second o is = grind arith

-- what a reply brings: nothing, that its peer is hot, or addresses, one after the other
module _ (R : Machine → Effect → Type 0) (nothing : (m : Machine) → R m (nothing_more m))
    (both : (m : Machine) (first : Effect) (next : Machine → Effect) → R m first → R first.machine (next first.machine) → R m (then_do first next))
    (shares : (addr : Addr) (m : Machine) → R m (shares_address addr m)) (heats : (addr : Addr) (m : Machine) → R m (peer_becomes Hot addr m)) where
  shares-cases : (addrs : List Addr) (m : Machine) → R m (for_each shares_address addrs m)
  unfolding for_each
  shares-cases [] m = nothing m
  shares-cases (a ∷ addrs) m = both m (shares_address a m) (for_each shares_address addrs) (shares a m) (shares-cases addrs (shares_address a m).machine)

  takes-cases : (o : Option Share) (m : Machine) → R m (takes_addresses o m)
  takes-cases o m = grind (arith, shares-cases)

  pub brings-cases : (protocol : ℕ) (body : List ℕ) (e : Entry) (m : Machine) → R m (brings protocol body e m)
  brings-cases protocol body e m = grind (arith, takes-cases)

-- ---- where a connection has moved

-- nobody is pruned, or whoever is chosen
pub trim-cases : (moved : Cid) (m : Machine) (P : Effect → Type 0) → P (nothing_more m) →
    ((e : Entry) → entry_at (unwrap_or (choice_of (candidates_in m)) moved).0 m ≡ Some e → P (ending Pruned e m)) → P (trim moved m)
trim-cases moved m P nobody prunes = grind arith
