-- The governor: the rules in their order, each on the machine that the one before it left.
use Rattle.std.specs.Prelude.{ℕ, ◌+◌, Bool, ◌&&◌, List, [], ◌∷◌, find, map, is_some, if◌then◌else◌, Option, Some, None}
use Rattle.churn_clock.specs.Windows.{effective_of, effective_big_of}
use Rattle.conn_state.specs.Protocols.{chain_sync, keep_alive, peer_sharing}
use Rattle.conn_state.specs.Use.{is_live, is_live_at, is_acquirable, is_pending, agreed_sharing}
use Rattle.govern_rules.specs.BigRules.{big_orders}
use Rattle.govern_rules.specs.Rules.{g2_orders, g3_orders, g4_orders, g5_orders, g6_orders, g7_orders, g8_orders, g9_orders}
use Rattle.govern_rules.specs.declared.big_rule.BigRule.TheVariants.{B3, B5, B6, B8, B9}
use Rattle.govern_rules.specs.declared.link.Link.{Link}
use Rattle.govern_rules.specs.declared.order.Order.{Order}
use Rattle.govern_rules.specs.declared.order.Order.TheVariants.{Ask, Forget, Promote, Release, Activate, Deactivate}
use Rattle.govern_rules.specs.declared.view.View.{View}
use Rattle.net_base.specs.declared.action.Action.TheVariants.{AskRoots}
use Rattle.net_base.specs.declared.address.Addr.{Addr}
use Rattle.net_base.specs.declared.peer.Temp.TheVariants.{Warm}
use Rattle.root_groups.specs.RootAsk.{may_ask, asked}
use Rattle.warm_messages.specs.Writing.{written_request}
use Rattle.machine.specs.Machine.{Machine, Entry, live_entry_at}
use Rattle.machine.specs.Effect.{Effect, promoted, activated, nothing_more, tells, then_do, as_move, on_entry, for_each}
use Rattle.machine.specs.Replies.{reply_on, owing, sends_as_initiator, find_intersect, chain_sync_done}
use Rattle.machine.specs.Peers.{peer_becomes, peer_was_asked, peer_goes}
use Rattle.machine.specs.Connections.{entry_turns, acquire, release, dial}

-- ---- what the rules see

abbrev pub link_of : Entry → Link
link_of entry = record {
  addr = entry.facts.addr;
  cid = entry.facts.cid;
  live = is_live entry.facts;
  acquirable = is_acquirable entry.facts;
  pending = is_pending entry.facts;
  local = entry.facts.local;
  sharing = agreed_sharing entry.facts.agreed;
  owes2 = is_some (reply_on chain_sync entry);
  owes8 = is_some (reply_on keep_alive entry);
  owes10 = is_some (reply_on peer_sharing entry);
}

abbrev pub view_of : ℕ → Machine → View
view_of word m = record {
  moment = m.now;
  word = word;
  settings = m.settings;
  targets = effective_of m.targets m.now;
  big = effective_big_of m.big_targets m.now;
  links = map link_of m.connections;
}

-- ---- orders are carried out

-- The rules promote no peer with a live connection that cannot be taken into use, so nothing is dialed beside one.
abbrev pub promoted_at : Option Entry → Addr → Machine → Effect
promoted_at None addr m = dial addr m
promoted_at (Some entry) addr m = if is_acquirable entry.facts then acquire entry m else dial addr m

-- A connection that can be taken into use is; else the address is dialed.
abbrev pub promote : Addr → Machine → Effect
promote addr m = as_move (promoted addr) m (promoted_at (live_entry_at addr m) addr m)

-- on the connection of an address that is in local use
abbrev pub is_used_at : Addr → Entry → Bool
is_used_at addr entry = is_live_at addr entry.facts && entry.facts.local

abbrev pub on_used : Addr → (Entry → Machine → Effect) → Machine → Effect
on_used addr act m = on_entry (find (is_used_at addr) m.connections) act m

-- A peer is asked for addresses, and not again for a while.
abbrev pub asks_peer : ℕ → Entry → Machine → Effect
asks_peer n entry m = then_do (sends_as_initiator entry.facts.cid peer_sharing (written_request n) m)
    (λ m. then_do (entry_turns entry (owing peer_sharing n m entry) m)
    (λ m. peer_was_asked (m.now + m.settings.sharegap) entry.facts.addr m))

-- A warm peer is asked where the chains meet; it is hot once it has answered.
abbrev pub activates : Entry → Machine → Effect
activates entry m = then_do (sends_as_initiator entry.facts.cid chain_sync find_intersect m)
    (λ m. entry_turns entry (owing chain_sync 0 m entry) m)

abbrev pub activate : Addr → Machine → Effect
activate addr m = as_move (activated addr) m (on_used addr activates m)

-- A hot peer is told that chain-sync is done, and is warm.
abbrev pub deactivates : Entry → Machine → Effect
deactivates entry m = then_do (sends_as_initiator entry.facts.cid chain_sync chain_sync_done m)
    (peer_becomes Warm entry.facts.addr)

abbrev pub carries_out : Order → Machine → Effect
carries_out (Ask addr n) m = on_used addr (asks_peer n) m
carries_out (Forget addr) m = peer_goes addr m
carries_out (Promote addr) m = promote addr m
carries_out (Release addr) m = on_used addr release m
carries_out (Activate addr) m = activate addr m
carries_out (Deactivate addr) m = on_used addr deactivates m

-- ---- the rules

-- The public root peers are asked for, where there are too few.
abbrev pub asks_roots : Machine → Effect
asks_roots m =
    if may_ask m.now m.targets.root m.roots
    then tells (AskRoots (record { 0 = m.roots.next_job }) ∷ []) (record m { roots = asked m.roots })
    else nothing_more m

-- the rules for ordinary peers that give orders, in their order
abbrev pub ordinary_rules : ℕ → List (Machine → List Order)
ordinary_rules word =
    (λ m. g2_orders (view_of word m) m.peers)
    ∷ (λ m. g3_orders (view_of word m) m.peers m.groups m.roots.publics)
    ∷ (λ m. g4_orders (view_of word m) m.peers m.groups)
    ∷ (λ m. g5_orders (view_of word m) m.peers m.groups)
    ∷ (λ m. g6_orders (view_of word m) m.peers m.groups)
    ∷ (λ m. g7_orders (view_of word m) m.peers m.groups)
    ∷ (λ m. g8_orders (view_of word m) m.peers m.groups)
    ∷ (λ m. g9_orders (view_of word m) m.peers m.groups)
    ∷ []

-- those for big ledger peers
abbrev pub big_rules : ℕ → List (Machine → List Order)
big_rules word = map (λ rule m. big_orders rule (view_of word m) m.peers) (B3 ∷ B5 ∷ B6 ∷ B8 ∷ B9 ∷ [])

-- A rule reads its counts and picks on the machine in which it starts, and then its orders are carried out.
abbrev pub rules : (Machine → List Order) → Machine → Effect
rules orders m = for_each carries_out (orders m) m

-- The word decides between peers that are as good.
abbrev pub govern : ℕ → Machine → Effect
govern word m = then_do (asks_roots m)
    (λ m. then_do (for_each rules (ordinary_rules word) m)
    (for_each rules (big_rules word)))
