use Rattle.std.proofs.Common.{◌≡◌, true, [], length, get_or, sym, arith}
use Rattle.std.proofs.lemmas.List.Sums.{position_or_len_is}
use Rattle.io_edge.specs.declared.named_file.NamedFile.{NamedFile}
use Rattle.io_edge.specs.Shelves.{has_name}
use Rattle.io_edge.proofs.mem_shelf.place_of.Goals as goal

-- what a look past the end would give
abbrev no_file : NamedFile
no_file = record { name = []; bytes = [] }

pub returns-then-has_name : goal.returns-then-has_name
returns-then-has_name c =
    let files = c.args.files.now in
    let place = c.loop-place.place in
    let file = c.index-files-place.result in
    let here : has_name c.args.name.now (get_or files place file) ≡ true = cc in
    sym (position_or_len_is (has_name c.args.name.now) files place file (omega arith) (λ k below. c.loop-place.invariant k file below) (λ _. here))

pub returns : goal.returns
returns c =
    let files = c.args.files.now in
    sym (position_or_len_is (has_name c.args.name.now) files (length files) no_file (omega arith)
    (λ k below. c.loop-place.invariant k no_file (omega (arith, below))) (λ past. absurd (omega (arith, past))))
