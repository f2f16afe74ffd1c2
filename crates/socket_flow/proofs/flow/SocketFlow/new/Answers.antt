use Rattle.std.proofs.Common.{◌≡◌, ℕ, Bool, arith, List, [], ◌∷◌, refl, ap}
use Rattle.std.specs.List.{sum_by}
use Rattle.std.proofs.lemmas.List.Sums.{sum_by-cons}
use Rattle.std.proofs.lemmas.Bool.{both_ways}
use Rattle.socket_flow.specs.Table.{stage_at, stage_of, is_told, is_waiting}
use Rattle.socket_flow.specs.Counts.{unsent_at, stranger_at}
use Rattle.socket_flow.proofs.Bounded.{waits_on, stranger_of}
use Rattle.socket_flow.proofs.flow.SocketFlow.new.Goals as goal

nothing : (size : ℕ → ℕ) → ((k : ℕ) → size k ≡ 0) → (keys : List ℕ) → sum_by size keys ≡ 0
nothing size none [] = refl
nothing size none (k ∷ keys) =
    let here = none k in
    let rest = nothing size none keys in
    omega (arith, sum_by-cons size k keys, here, rest)

pub invariant_of-result : goal.invariant_of-result
invariant_of-result c =
    let none = c.new.ensures.sockets in
    let unsent = nothing (unsent_at c.new.result) (λ k. ap {B = ℕ} (λ s. waits_on s) (none k)) in
    let strangers = nothing (stranger_at c.new.result) (λ k. ap {B = ℕ} (λ s. stranger_of s) (none k)) in
    record {
      said = c.in_ok-greeting_of.ensures.size;
      counted = λ keys once. let sum = unsent keys in omega (arith, sum);
      bounded = λ keys once. let sum = unsent keys in omega (arith, sum);
      announces = λ keys once. let sum = strangers keys in omega (arith, sum);
      alone = λ k told. absurd (both_ways (is_told (stage_at c.new.result k)) (ap {B = Bool} (λ s. is_told (stage_of s)) (none k)) told);
      in_line = λ k waits. absurd (both_ways (is_waiting (stage_at c.new.result k)) (ap {B = Bool} (λ s. is_waiting (stage_of s)) (none k)) waits);
    }
