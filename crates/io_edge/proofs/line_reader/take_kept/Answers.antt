use Rattle.std.proofs.Common.{◌≡◌, ◌<◌, ◌++◌, length, take, inr, refl, ap, arith}
use Rattle.std.specs.List.{position_or_len}
use Rattle.std.proofs.lemmas.List.{drop-drop}
use Rattle.io_edge.specs.Lines.{is_line_feed}
use Rattle.io_edge.proofs.FrontLemmas.{too_long, still_fits, unended, line_found}
use Rattle.io_edge.proofs.line_reader.take_kept.Goals as goal
use Rattle.io_edge.proofs.line_reader.take_kept.Goals.{then-count-ahead-via-then-count-ahead, then-count-ahead-via-else-count-ahead+then-len-count-gt-LINE_LIMIT}

pub returns-then-count-ahead-clause-answer : goal.returns-then-count-ahead-clause-answer
returns-then-count-ahead-clause-answer c =
    let at : c.line_length-count.result ≡ position_or_len is_line_feed c.args.window.now = cc in
    let size : length c.bytes-ahead.result.now ≡ length c.args.window.now = ap length c.bytes-ahead.ensures.value in
    elim c.then-count-ahead.branch [
      | then-count-ahead-via-then-count-ahead w ↦ (unended c.args.held.now.items c.args.window.now c.requires (omega (arith, at, size)), refl)
      | then-count-ahead-via-else-count-ahead+then-len-count-gt-LINE_LIMIT w ↦
          (inr (too_long c.args.held.now.items c.args.window.now c.requires (omega (arith, at))), refl)
    ]

pub returns-clause-answer : goal.returns-clause-answer
returns-clause-answer c =
    let at : c.line_length-count.result ≡ position_or_len is_line_feed c.args.window.now = cc in
    let front : c.extend_from_slice.new.self.items ≡ c.args.held.now.items = rw (c.clear.ensures.items, c.deref.ensures.value) at c.in_ok-extend_from_slice.ensures.items in
    let join : c.extend_from_slice-2.new.self.items ≡ c.args.held.now.items ++ take c.line_length-count.result c.args.window.now =
    rw (front, c.bytes-ahead.ensures.value) at c.in_ok-extend_from_slice-2.ensures.items in
    let found : c.line_length-count.result < length c.args.window.now = omega (arith, ap length c.bytes-ahead.ensures.value) in
    let fits = still_fits c.args.held.now.items c.args.window.now c.extend_from_slice-2.new.self.items c.line_length-count.result c.requires at (omega arith) join in
    let cut = line_found c.args.held.now.items c.args.window.now c.extend_from_slice-2.new.self.items c.line_length-count.result at found join in
    (fits, rw (c.clear-2.ensures.items, c.consume.ensures.rest, ← drop-drop 1 c.line_length-count.result c.args.window.now) cut)
