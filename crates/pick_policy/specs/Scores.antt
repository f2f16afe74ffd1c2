-- The scores by which peers are picked: this project's own.
use Rattle.std.specs.Prelude.{ℕ, ◌+◌, ◌*◌, ◌%◌, ◌^◌, min, Bool, ◌&&◌, ◌||◌, ◌==◌, nat_lt}
use Rattle.net_base.specs.Address.{key_of, address_below}
use Rattle.net_base.specs.declared.address.Addr.{Addr}
use Rattle.pick_policy.specs.declared.rated.Rated.{Rated}

-- The score of an address under a word. It wraps.
abbrev pub score_of : ℕ → Addr → ℕ
score_of word addr = (key_of addr + word) % 2 ^ 64

-- The score of an address that failed so often. The failures come first.
abbrev pub ranked_score_of : ℕ → ℕ → Addr → ℕ
ranked_score_of word failures addr = min failures 65535 * 2 ^ 48 + (key_of addr + word) % 2 ^ 48

-- by a score, and then by the address
abbrev pub pair_below : ℕ → Addr → ℕ → Addr → Bool
pair_below m a n b = nat_lt m n || (m == n && address_below a b)

-- one address comes before another under a word
abbrev pub scores_below : ℕ → Addr → Addr → Bool
scores_below word a b = pair_below (score_of word a) a (score_of word b) b

-- one rated address comes before another
abbrev pub rates_below : ℕ → Rated → Rated → Bool
rates_below word a b = pair_below
    (ranked_score_of word a.failures a.addr) a.addr (ranked_score_of word b.failures b.addr) b.addr
