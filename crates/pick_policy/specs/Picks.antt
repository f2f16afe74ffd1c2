-- Which of several peers are picked.
use Rattle.std.specs.Prelude.{ℕ, List, map}
use Rattle.net_base.specs.declared.address.Addr.{Addr}
use Rattle.pick_policy.specs.declared.rated.Rated.{Rated}
use Rattle.pick_policy.specs.Least.{least_by}
use Rattle.pick_policy.specs.Scores.{scores_below, rates_below}

-- the k candidates of least score, of one score those of least address
abbrev pub picked : List Addr → ℕ → ℕ → List Addr
picked cands k word = least_by (scores_below word) k cands

-- the addresses of the k candidates of least ranked score, of one score those of least address
abbrev pub ranked : List Rated → ℕ → ℕ → List Addr
ranked cands k word = map (λ r. r.addr) (least_by (rates_below word) k cands)
