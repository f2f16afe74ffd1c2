-- The ask for public root peers.
use Rattle.std.specs.Prelude.{ℕ, ◌+◌, Bool, false, ◌&&◌, ◌==◌, nat_le, nat_lt, List, [], ◌∷◌, ◌++◌, length, take, Option, Some, None, is_none, if◌then◌else◌}
use Rattle.net_base.specs.Peer.{more_failures, backoff_of}
use Rattle.net_base.specs.Shared.{RootState}
use Rattle.net_base.specs.declared.address.Addr.{Addr}
use Rattle.net_base.specs.declared.event.Job.{Job}
use Rattle.root_groups.specs.Cleaned.{is_listed, first_places}

-- there are too few public roots, no ask is pending, and its time has come
abbrev pub may_ask : ℕ → ℕ → RootState → Bool
may_ask now target roots =
    nat_lt (length roots.publics) target && is_none roots.pending && nat_le roots.next_moment now

abbrev pub asked : RootState → RootState
asked roots = record roots { pending = Some roots.next_job; next_job = roots.next_job + 1 }

abbrev pub job_number : Option Job → Option ℕ
job_number None = None
job_number (Some job) = Some job.0

abbrev pub is_job : ℕ → Option ℕ → Bool
is_job job None = false
is_job job (Some pending) = job == pending

-- the job is the pending one
abbrev pub awaits : ℕ → RootState → Bool
awaits job roots = is_job job roots.pending

-- the first distinct addresses but the own one, at most as many as the target
abbrev pub publics_of : Addr → ℕ → List Addr → List Addr
publics_of own target addrs = take target (first_places (own ∷ []) addrs)

-- one more address, where it is neither the own one nor there
abbrev pub with_other : Addr → Addr → List Addr → List Addr
with_other own addr addrs = if is_listed addr (own ∷ addrs) then addrs else addrs ++ addr ∷ []

-- the provider has answered, and may be asked again after a time
abbrev pub found : ℕ → ℕ → List Addr → RootState → RootState
found now ttl publics roots = record roots { publics = publics; pending = None; failures = 0; next_moment = now + ttl }

-- the provider has failed, and is left alone for the back-off
abbrev pub failed : ℕ → ℕ → RootState → RootState
failed now base roots = record roots {
  pending = None;
  failures = more_failures roots.failures;
  next_moment = now + backoff_of base (more_failures roots.failures);
}
