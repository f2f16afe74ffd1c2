-- Candidates beside their scores.
use Rattle.std.specs.Prelude.{ℕ, Bool}
use Rattle.net_base.specs.declared.address.Addr.{Addr}
use Rattle.pick_policy.specs.declared.rated.Rated.{Rated}
use Rattle.pick_policy.specs.declared.scored.Scored.{Scored}
use Rattle.pick_policy.specs.Scores.{pair_below, score_of, ranked_score_of}

-- by the score, and then by the address
abbrev pub scored_below : Scored → Scored → Bool
scored_below a b = pair_below a.score a.addr b.score b.addr

abbrev pub scored_under : ℕ → Addr → Scored
scored_under word addr = record { score = score_of word addr; addr = addr }

abbrev pub ranked_under : ℕ → Rated → Scored
ranked_under word rated = record { score = ranked_score_of word rated.failures rated.addr; addr = rated.addr }
