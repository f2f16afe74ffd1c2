-- The leases that a table gave and that are kept beside it.
use Rattle.std.specs.Prelude.{ℕ, ◌≡◌, ◌==◌, Bool, true, false, List, Some}
use Rattle.std.specs.List.{list_any}
use Rattle.net_base.specs.declared.connection.Cid.{Cid}
use Rattle.net_base.specs.declared.connection.Facts.{Facts}
use Rattle.conn_state.specs.Use.{facts_at}

-- the lease of the connection with an id is among them
abbrev pub is_kept : ℕ → List Cid → Bool
is_kept cid = list_any (λ lease. lease.0 == cid)

-- of each connection in local use, the lease is among them
abbrev pub AreKept : List Cid → List Facts → Type 0
AreKept leases fs = (cid : ℕ) (f : Facts) → facts_at cid fs ≡ Some f → f.local ≡ true → is_kept cid leases ≡ true

-- leases other than that of one connection are among the new ones too
abbrev pub OthersStay : ℕ → List Cid → List Cid → Type 0
OthersStay cid leases new = (other : ℕ) → (other == cid) ≡ false → is_kept other leases ≡ true → is_kept other new ≡ true
