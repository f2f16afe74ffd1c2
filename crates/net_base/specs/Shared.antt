-- Records that one part of the node and the machine as a whole both speak of.
use Rattle.std.specs.Prelude.{ℕ, List, [], Option, None}
use Rattle.net_base.specs.declared.address.Addr.{Addr}

-- the bytes of one side and protocol that are no whole item yet
pub record Part : Type 0 where
  pub side : ℕ
  pub protocol : ℕ
  pub bytes : List ℕ

-- what of a stream is not decoded yet: the rest that is no whole segment, and the parts in order of side
-- and protocol, none of them empty
pub record Undecoded : Type 0 where
  pub rest : List ℕ
  pub parts : List Part

-- nothing came in yet
abbrev pub nothing_undecoded : Undecoded
nothing_undecoded = record { rest = []; parts = [] }

-- the public root peers, and the question that asks for them
pub record RootState : Type 0 where
  pub publics : List Addr
  -- the job that is not answered yet
  pub pending : Option ℕ
  pub failures : ℕ
  -- when it may be asked again
  pub next_moment : ℕ
  pub next_job : ℕ

abbrev pub first_roots : RootState
first_roots = record { publics = []; pending = None; failures = 0; next_moment = 0; next_job = 1 }
