-- What stays and what goes, one call after another.
use Rattle.std.proofs.Common.{◌≡◌, ◌⊎◌, inl, inr, ℕ, List, [], ◌∷◌, ◌++◌, Some, None, refl, ap, sym, ◌∙◌, arith}
use Rattle.socket_flow.specs.Table.{out_at, stage_at, key_at}
use Rattle.net_base.specs.declared.event.Event.{Event}
use Rattle.socket_flow.specs.Asks.{Asks, AsksForRoom, IsReadable, IsSilent, IsNoRead, IsNoAccept, IsFirst, IsNextCaller}
use Rattle.socket_flow.specs.Talk.{HasNoMoreStrangers, KeepsKeys, KeepsSockets, KeepsAll, Loses, Losing, MayLose, TellsAndMayLose}
use Rattle.socket_flow.specs.declared.ask.Ask.{Ask}
use Rattle.socket_flow.specs.declared.ask.Ask.TheVariants.{Close, Connect, Check, Write, Accept, Read, Give, Govern, Wait}
use Rattle.socket_flow.specs.declared.flow.SocketFlow.{SocketFlow}

nobody : {A : Type 0} (key : ℕ) → None ≡ Some key → A
nobody key h = absurd (cc)

same_strangers : (a : SocketFlow) → HasNoMoreStrangers a a
same_strangers a = record { count = omega arith; most = refl }

pub as_many_strangers : (a b : SocketFlow) → b.strangers ≡ a.strangers → b.strangers_most ≡ a.strangers_most → HasNoMoreStrangers a b
as_many_strangers a b count most = record { count = omega (arith, count); most = most }

pub strangers_then : (a b c : SocketFlow) → HasNoMoreStrangers a b → HasNoMoreStrangers b c → HasNoMoreStrangers a c
strangers_then a b c p q = record { count = let before = p.count in let after = q.count in omega (arith, before, after); most = q.most ∙ p.most }

pub same_keys : (a : SocketFlow) → KeepsKeys a a
same_keys a = record { next = refl; greeting = refl; caller = λ key is. is; strangers = same_strangers a }

pub same_sockets : (a : SocketFlow) → KeepsSockets a a
same_sockets a = record { talk = λ k. (refl, refl); names = λ cid. refl; keys = same_keys a }

pub same : (a : SocketFlow) → KeepsAll a a
same a = record { sockets = same_sockets a; events = refl }

-- what all of this is said of is the same
pub at_rest : (a b : SocketFlow) → b.table ≡ a.table → b.events ≡ a.events → b.greeting ≡ a.greeting → b.caller ≡ a.caller → b.strangers ≡ a.strangers → b.strangers_most ≡ a.strangers_most → KeepsAll a b
at_rest a b table events greeting caller count most = record {
  sockets = record {
    talk = λ k. (ap (λ t. out_at t k) table, ap (λ t. stage_at t k) table);
    names = λ cid. ap (λ t. key_at t cid) table;
    keys = record { next = ap (λ t. t.next_key) table; greeting = greeting; caller = λ key is. sym caller ∙ is; strangers = as_many_strangers a b count most };
  };
  events = events;
}

pub keys_then : (a b c : SocketFlow) → KeepsKeys a b → KeepsKeys b c → KeepsKeys a c
keys_then a b c p q = record { next = q.next ∙ p.next; greeting = q.greeting ∙ p.greeting; caller = λ key is. p.caller key (q.caller key is); strangers = strangers_then a b c p.strangers q.strangers }

pub sockets_then : (a b c : SocketFlow) → KeepsSockets a b → KeepsSockets b c → KeepsSockets a c
sockets_then a b c p q = record {
  talk = λ k. ((q.talk k).0 ∙ (p.talk k).0, (q.talk k).1 ∙ (p.talk k).1);
  names = λ cid. q.names cid ∙ p.names cid;
  keys = keys_then a b c p.keys q.keys;
}

pub all_then : (a b c : SocketFlow) → KeepsAll a b → KeepsAll b c → KeepsAll a c
all_then a b c p q = record { sockets = sockets_then a b c p.sockets q.sockets; events = q.events ∙ p.events }

kept_then_losing : (keys : List ℕ) (a b c : SocketFlow) → KeepsAll a b → Losing keys b c → Losing keys a c
kept_then_losing [] a b c p q = all_then a b c p q
kept_then_losing (key ∷ keys) a b c p q = (q.0, q.1, all_then a b q.0 p q.2, q.3, q.4)

losing_then : (keys more : List ℕ) (a b c : SocketFlow) → Losing keys a b → Losing more b c → Losing (keys ++ more) a c
losing_then [] more a b c p q = kept_then_losing more a b c p q
losing_then (key ∷ keys) more a b c p q = (p.0, p.1, p.2, p.3, losing_then keys more p.1 b c p.4 q)

pub kept : (a b : SocketFlow) → KeepsAll a b → MayLose a b
kept a b p = record { gone = []; losing = p }

pub lost : (a b : SocketFlow) (key : ℕ) → Loses key a b → MayLose a b
lost a b key p = record { gone = key ∷ []; losing = (a, b, same a, p, same b) }

pub and_then : (a b c : SocketFlow) → MayLose a b → MayLose b c → MayLose a c
and_then a b c p q = record { gone = p.gone ++ q.gone; losing = losing_then p.gone q.gone a b c p.losing q.losing }

-- what was done before or after it is said of nothing that is told or sent
pub at_rest_then : (a b c : SocketFlow) → MayLose b c → b.table ≡ a.table → b.events ≡ a.events → b.greeting ≡ a.greeting → b.caller ≡ a.caller → b.strangers ≡ a.strangers → b.strangers_most ≡ a.strangers_most → MayLose a c
at_rest_then a b c p table events greeting caller count most = and_then a b c (kept a b (at_rest a b table events greeting caller count most)) p

pub then_at_rest : (a b c : SocketFlow) → MayLose a b → c.table ≡ b.table → c.events ≡ b.events → c.greeting ≡ b.greeting → c.caller ≡ b.caller → c.strangers ≡ b.strangers → c.strangers_most ≡ b.strangers_most → MayLose a c
then_at_rest a b c p table events greeting caller count most = and_then a b c p (kept b c (at_rest b c table events greeting caller count most))

-- the peer that the node was told of is that no more, and its socket goes
pub left_alone : (a b c : SocketFlow) (key : ℕ) → Loses key a b → c.table ≡ b.table → c.events ≡ b.events → c.greeting ≡ b.greeting → c.caller ≡ None → c.strangers ≡ b.strangers → c.strangers_most ≡ b.strangers_most → MayLose a c
left_alone a b c key p table events greeting none count most =
    and_then a b c (lost a b key p) (kept b c (record {
      sockets = record {
        talk = λ k. (ap (λ t. out_at t k) table, ap (λ t. stage_at t k) table);
        names = λ cid. ap (λ t. key_at t cid) table;
        keys = record { next = ap (λ t. t.next_key) table; greeting = greeting; caller = λ k is. nobody k (sym none ∙ is); strangers = as_many_strangers b c count most };
      };
      events = events;
    }))

-- events are told, something is done that is said of nothing, and sockets go
pub tells_and_loses : (a b c d : SocketFlow) (more : List Event) → KeepsSockets a b → b.events ≡ a.events ++ more → MayLose c d
    → c.table ≡ b.table → c.events ≡ b.events → c.greeting ≡ b.greeting → c.caller ≡ b.caller → c.strangers ≡ b.strangers → c.strangers_most ≡ b.strangers_most
    → TellsAndMayLose a d more
tells_and_loses a b c d more keeps events loses table same greeting caller count most = record {
  told = b;
  sockets = keeps;
  last = events;
  loses = at_rest_then b c d loses table same greeting caller count most;
}

pub asks_of : (ask : Ask) (a b : SocketFlow) → KeepsAll a b → IsReadable b.table ask → IsSilent b ask → Asks a b ask
asks_of (Close key) a b p r s = (p, r)
asks_of (Connect key addr) a b p r s = (p, r)
asks_of (Check key) a b p r s = (p, r)
asks_of (Write key) a b p r s = (p, r)
asks_of Accept a b p r s = (p, r)
asks_of (Read key most) a b p r s = (p, r, s)
asks_of (Give event) a b p r s = absurd r
asks_of Govern a b p r s = (p, r)
asks_of (Wait time) a b p r s = (p, r)

pub silent_unread : (ask : Ask) (a : SocketFlow) → IsNoRead ask → IsSilent a ask
silent_unread (Close key) a p = tt
silent_unread (Connect key addr) a p = tt
silent_unread (Check key) a p = tt
silent_unread (Write key) a p = tt
silent_unread Accept a p = tt
silent_unread (Read key most) a p = absurd p
silent_unread (Give event) a p = tt
silent_unread Govern a p = tt
silent_unread (Wait time) a p = tt

pub silent_where : (ask : Ask) (a : SocketFlow) → a.events ≡ [] → IsSilent a ask
silent_where (Close key) a p = tt
silent_where (Connect key addr) a p = tt
silent_where (Check key) a p = tt
silent_where (Write key) a p = tt
silent_where Accept a p = tt
silent_where (Read key most) a p = p
silent_where (Give event) a p = tt
silent_where Govern a p = tt
silent_where (Wait time) a p = tt

pub room_where : (ask : Ask) (a : SocketFlow) → IsNoAccept ask → AsksForRoom a ask
room_where (Close key) a p = tt
room_where (Connect key addr) a p = tt
room_where (Check key) a p = tt
room_where (Write key) a p = tt
room_where Accept a p = absurd p
room_where (Read key most) a p = tt
room_where (Give event) a p = tt
room_where Govern a p = tt
room_where (Wait time) a p = tt

-- an event that is given is the first, or tells of the next peer
pub first_or_next : (a b : SocketFlow) (event : Event) → IsFirst a b event ⊎ IsNextCaller a b event → (a.events ≡ event ∷ b.events) ⊎ IsNextCaller a b event
first_or_next a b event (inl p) = inl p.first
first_or_next a b event (inr p) = inr p
