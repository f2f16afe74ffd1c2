-- That a connection which stands open, however far it has come, stays so or ends once.
use Rattle.std.specs.Prelude.{ℕ, ◌≡◌, Bool, true, false, not, ◌&&◌, ◌||◌, ◌==◌, List, [], ◌∷◌, Option, Some, None}
use Rattle.laws.specs.Words.{is_dialing, is_live, CloseCause, Effect, Machine, Entry, entry_at}
use Rattle.laws.specs.Acts.{Act, ends_dial, is_closed}
use Rattle.laws.specs.Stages.{causes_in}

-- it is dialed, greets, or its handshake is done
abbrev pub is_open_entry : Option Entry → Bool
is_open_entry None = false
is_open_entry (Some e) = is_live e.facts

abbrev pub is_open_at : ℕ → Machine → Bool
is_open_at cid m = is_open_entry (entry_at cid m)

abbrev pub is_dialing_entry : Option Entry → Bool
is_dialing_entry None = false
is_dialing_entry (Some e) = is_dialing e.facts

-- it goes without this node's doing: the other side has closed it, or its dial has failed
abbrev pub goes_by_itself : Act → Machine → ℕ → Bool
goes_by_itself (is_closed own) m cid = own.0 == cid
goes_by_itself (ends_dial own opened) m cid = own.0 == cid && (not opened && is_dialing_entry (entry_at cid m))
goes_by_itself other m cid = false

-- It stays open, or goes by itself; or this node ends it once, and then it is open no more.
abbrev pub IsOpenEnd : List CloseCause → Bool → Bool → Type 0
IsOpenEnd [] stays goes = (stays || goes) ≡ true
IsOpenEnd (cause ∷ []) stays goes = stays ≡ false
IsOpenEnd (cause ∷ other ∷ causes) stays goes = ⊥

abbrev pub OpenEndsOnce : Act → Machine → Effect → Type 0
OpenEndsOnce act before effect = (cid : ℕ) → is_open_at cid before ≡ true →
    IsOpenEnd (causes_in cid effect.moves) (is_open_at cid effect.machine) (goes_by_itself act before cid)
