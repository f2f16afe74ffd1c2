-- What is remembered of a peer: how often it failed, until when it is left alone, and when it may be asked for addresses again.
use Rattle.std.specs.Prelude.{◌≡◌, ◌≤◌, Bool, false, ◌&&◌, Option, Some, None, is_none}
use Rattle.laws.specs.Words.{Order, Ask, Forget, Promote, Release, Activate, Deactivate, same_address, Addr, Peer, Machine, Entry, entry_at, peer_at}
use Rattle.laws.specs.Acts.{Act, fires_one, carries, ends_dial, handles_item, ends_stream, is_closed}
use Rattle.laws.specs.AtMoves.{some_connection, is_missed}

pub record IsRemembered (p q : Peer) : Type 0 where
  pub failures : q.failures ≡ p.failures
  pub not_before : q.not_before ≡ p.not_before
  pub share_next : q.share_next ≡ p.share_next

-- of a peer that is in the book before and after
abbrev pub WhereBoth : (Peer → Peer → Type 0) → Option Peer → Option Peer → Type 0
WhereBoth law None after = Unit {0}
WhereBoth law (Some p) None = Unit {0}
WhereBoth law (Some p) (Some q) = law p q

-- Whoever stays in the book is remembered as before.
abbrev pub AllRemembered : Machine → Machine → Type 0
AllRemembered before after = (addr : Addr) → WhereBoth IsRemembered (peer_at addr before) (peer_at addr after)

abbrev pub OthersRemembered : Addr → Machine → Machine → Type 0
OthersRemembered own before after = (addr : Addr) → same_address addr own ≡ false → WhereBoth IsRemembered (peer_at addr before) (peer_at addr after)

-- a peer that is asked for addresses
pub record IsAsked (p q : Peer) : Type 0 where
  pub failures : q.failures ≡ p.failures
  pub not_before : q.not_before ≡ p.not_before

-- a peer that comes into use
pub record IsTaken (p q : Peer) : Type 0 where
  pub failures : q.failures ≤ p.failures
  pub not_before : q.not_before ≡ p.not_before
  pub share_next : q.share_next ≡ p.share_next

abbrev pub RemembersByOrder : Order → Machine → Machine → Type 0
RemembersByOrder (Ask addr n) before after = OthersRemembered addr before after × WhereBoth IsAsked (peer_at addr before) (peer_at addr after)
RemembersByOrder (Forget addr) before after = AllRemembered before after
RemembersByOrder (Promote addr) before after = OthersRemembered addr before after × WhereBoth IsTaken (peer_at addr before) (peer_at addr after)
RemembersByOrder (Release addr) before after = AllRemembered before after
RemembersByOrder (Activate addr) before after = AllRemembered before after
RemembersByOrder (Deactivate addr) before after = AllRemembered before after

-- what happens on a connection is a matter of its own peer
abbrev pub RemembersBeside : Option Entry → Machine → Machine → Type 0
RemembersBeside None before after = AllRemembered before after
RemembersBeside (Some e) before after = OthersRemembered e.facts.addr before after

-- Only what happens on a connection with a peer, and an order that asks or promotes it, changes what is remembered of it.
abbrev pub Remembers : Act → Machine → Machine → Type 0
Remembers (fires_one d) before after = RemembersBeside (entry_at d.cid.0 before) before after
Remembers (carries order) before after = RemembersByOrder order before after
Remembers (ends_dial cid opened) before after = RemembersBeside (entry_at cid.0 before) before after
Remembers (handles_item cid item) before after = RemembersBeside (entry_at cid.0 before) before after
Remembers (ends_stream cid fault) before after = RemembersBeside (entry_at cid.0 before) before after
Remembers (is_closed cid) before after = RemembersBeside (entry_at cid.0 before) before after
Remembers other before after = AllRemembered before after

-- ---- who fails

-- It has not failed: no failure is added, and it is left alone no longer.
pub record IsSpared (p q : Peer) : Type 0 where
  pub failures : q.failures ≤ p.failures
  pub not_before : q.not_before ≡ p.not_before

-- some connection with the address that this node used, or was on its way to, is gone
abbrev pub has_lost : Addr → Machine → Machine → Bool
has_lost addr before after = some_connection (λ e. is_missed e.facts && is_none (entry_at e.facts.cid.0 after)) addr before

-- A peer fails only where a connection with it in use, or its dial, has gone.
abbrev pub FailsOnly : Machine → Machine → Type 0
FailsOnly before after = (addr : Addr) → has_lost addr before after ≡ false → WhereBoth IsSpared (peer_at addr before) (peer_at addr after)
