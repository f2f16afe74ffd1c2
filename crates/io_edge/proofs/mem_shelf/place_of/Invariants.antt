use Rattle.std.proofs.Common.{◌≡◌, ℕ, ◌<◌, false, get_or}
use Rattle.io_edge.specs.declared.named_file.NamedFile.{NamedFile}
use Rattle.io_edge.specs.Shelves.{has_name}
use Rattle.io_edge.proofs.mem_shelf.place_of.Given as goal

-- no file before this place has the name
abbrev pub invariant-loop-place : goal.invariant-loop-place
invariant-loop-place l = (k : ℕ) (other : NamedFile) → k < l.place → has_name l.name (get_or l.files k other) ≡ false
