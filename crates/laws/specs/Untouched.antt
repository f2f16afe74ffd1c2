-- What a part of an event leaves as it was: every connection but the one that it is about.
use Rattle.std.specs.Prelude.{ℕ, ◌<◌, ◌≡◌, ◌⊎◌, Bool, true, false, ◌==◌, Option, Some, None}
use Rattle.laws.specs.Words.{Order, Ask, Forget, Promote, Release, Activate, Deactivate, same_address, nothing_undecoded, Addr, Machine, Entry, entry_at}
use Rattle.laws.specs.Acts.{Act, fires_one, carries, ends_dial, stores, handles_item, ends_stream, is_closed}

-- ---- which connection a part is about

abbrev pub address_of : Order → Addr
address_of (Ask addr n) = addr
address_of (Forget addr) = addr
address_of (Promote addr) = addr
address_of (Release addr) = addr
address_of (Activate addr) = addr
address_of (Deactivate addr) = addr

abbrev pub is_with : Addr → Option Entry → Bool
is_with addr None = false
is_with addr (Some e) = same_address e.facts.addr addr

abbrev pub is_about : Act → Machine → ℕ → Bool
is_about (fires_one d) m cid = d.cid.0 == cid
is_about (carries order) m cid = is_with (address_of order) (entry_at cid m)
is_about (ends_dial own opened) m cid = own.0 == cid
is_about (stores entry undecoded) m cid = entry.facts.cid.0 == cid
is_about (handles_item own item) m cid = own.0 == cid
is_about (ends_stream own fault) m cid = own.0 == cid
is_about (is_closed own) m cid = own.0 == cid
is_about other m cid = false

-- bytes have come in on it
abbrev pub has_bytes : Act → ℕ → Bool
has_bytes (stores entry undecoded) cid = entry.facts.cid.0 == cid
has_bytes other cid = false

-- a deadline may close it
abbrev pub may_close : Act → Bool
may_close (fires_one d) = true
may_close other = false

-- ---- what is left as it was

-- It is gone, or as it was in all that is kept of it: its facts, what it waits for, what is not decoded and what is owed on it.
abbrev pub IsAsItWas : Option Entry → Option Entry → Type 0
IsAsItWas before None = Unit {0}
IsAsItWas before (Some f) = before ≡ Some f

-- It is gone, or what is not decoded stays so, or is dropped where it may be.
abbrev pub KeepsBytes : Bool → Option Entry → Option Entry → Type 0
KeepsBytes drops before None = Unit {0}
KeepsBytes drops None (Some f) = ⊥
KeepsBytes drops (Some e) (Some f) = (f.undecoded ≡ e.undecoded) ⊎ ((drops ≡ true) × (f.undecoded ≡ nothing_undecoded))

-- of the connections that stood
pub record LeavesRest (act : Act) (before after : Machine) : Type 0 where
  pub others : (cid : ℕ) → is_about act before cid ≡ false → cid < before.next_id → IsAsItWas (entry_at cid before) (entry_at cid after)
  pub bytes : (cid : ℕ) → has_bytes act cid ≡ false → cid < before.next_id → KeepsBytes (may_close act) (entry_at cid before) (entry_at cid after)
