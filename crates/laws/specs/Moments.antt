-- Whatever is waited for is still ahead, and what is over is waited for no more.
use Rattle.std.specs.Prelude.{ℕ, ◌≡◌, ◌<◌, Some, None}
use Rattle.laws.specs.Words.{Kind, Machine}
use Rattle.laws.specs.Acts.{Act, fires_one}
use Rattle.laws.specs.Waits.{until_at}

-- The moment until which a connection waits, for whatever it is, is above now.
abbrev pub WaitsAhead : Machine → Type 0
WaitsAhead m = (kind : Kind) (cid until : ℕ) → until_at kind cid m ≡ Some until → m.now < until

-- What has fired is over: the connection waits for it no more.
abbrev pub IsOverAfter : Act → Machine → Type 0
IsOverAfter (fires_one d) after = until_at d.kind d.cid.0 after ≡ None
IsOverAfter other after = Unit {0}
