use Rattle.std.proofs.Common.{◌≡◌, ◌+◌, ◌≤◌, ℕ, List, length, take, Option, Some, None, IfSome, sym, ap, ◌∙◌, arith}
use Rattle.std.proofs.lemmas.List.{take_all}
use Rattle.io_edge.proofs.dir_shelf.read_front.Goals as goal

all_known : (known : Option (List ℕ)) (bytes : List ℕ) (most : ℕ) → length bytes ≤ most → IfSome known (λ all. bytes ≡ all) → IfSome known (λ all. bytes ≡ take most all)
all_known None bytes most fits same = tt
all_known (Some all) bytes most fits same = same ∙ sym (take_all most all (omega (arith, ap length same, fits)))

pub returns-in_default : goal.returns-in_default
returns-in_default g c =
    let bytes = c.read_to_end.new.buf in
    let fits : length bytes.items ≤ c.args.limit + 1 = omega (arith, c.in_default.ensures, bytes.ok, bytes.small) in
    all_known (g.R.Read.remaining c.args.reader.now) bytes.items (c.args.limit + 1) fits (rw c.new-bytes.ensures.items at c.in_ok-read_to_end.ensures.bytes)
