use Rattle.std.proofs.Common.{◌≡◌, ◌<◌, ◌≤◌, ◌++◌, length, take, ap, ◌∙◌, subst, arith}
use Rattle.std.specs.List.{position_or_len}
use Rattle.std.proofs.lemmas.List.{drop_all}
use Rattle.std.proofs.lemmas.Result.{err_from_is_err_and}
use Rattle.io_edge.specs.Lines.{is_line_feed, FitsLine}
use Rattle.io_edge.proofs.FrontLemmas.{too_long, not_too_long, still_fits, all_joined, line_found}
use Rattle.io_edge.proofs.line_reader.take_line.Goals as goal

pub returns-then-len-count-gt-LINE_LIMIT-clause-answer : goal.returns-then-len-count-gt-LINE_LIMIT-clause-answer
returns-then-len-count-gt-LINE_LIMIT-clause-answer c =
    let at : c.line_length-count.result ≡ position_or_len is_line_feed c.args.window.now = cc in
    too_long c.args.held.now.items c.args.window.now c.requires (omega arith)

pub returns-in_err-extend_from_slice-clause-answer : goal.returns-in_err-extend_from_slice-clause-answer
returns-in_err-extend_from_slice-clause-answer c =
    let at : c.line_length-count.result ≡ position_or_len is_line_feed c.args.window.now = cc in
    let p = err_from_is_err_and c.from_residual.result c.from_residual.ensures.1 in
    rw (p.1, p.2) (not_too_long c.args.held.now.items c.args.window.now c.requires (omega arith))

pub returns-then-not-is_ended-clause-answer : goal.returns-then-not-is_ended-clause-answer
returns-then-not-is_ended-clause-answer c =
    let at : c.line_length-count.result ≡ position_or_len is_line_feed c.args.window.now = cc in
    let join : c.extend_from_slice.new.self.items ≡ c.args.held.now.items ++ take c.line_length-count.result c.args.window.now =
    rw c.bytes-ahead.ensures.value at c.in_ok-extend_from_slice.ensures.items in
    let far : length c.args.window.now ≤ c.line_length-count.result = omega (arith, ap length c.bytes-ahead.ensures.value) in
    let all = all_joined c.args.held.now.items c.args.window.now c.extend_from_slice.new.self.items c.line_length-count.result far join in
    let fits = still_fits c.args.held.now.items c.args.window.now c.extend_from_slice.new.self.items c.line_length-count.result c.requires at (omega arith) join in
    (subst FitsLine all fits, all, c.consume.ensures.rest ∙ drop_all c.line_length-count.result c.args.window.now far)

pub returns-then-not-is_ended-clause-front : goal.returns-then-not-is_ended-clause-front
returns-then-not-is_ended-clause-front c =
    let at : c.line_length-count.result ≡ position_or_len is_line_feed c.args.window.now = cc in
    let join : c.extend_from_slice.new.self.items ≡ c.args.held.now.items ++ take c.line_length-count.result c.args.window.now =
    rw c.bytes-ahead.ensures.value at c.in_ok-extend_from_slice.ensures.items in
    still_fits c.args.held.now.items c.args.window.now c.extend_from_slice.new.self.items c.line_length-count.result c.requires at (omega arith) join

pub returns-clause-answer : goal.returns-clause-answer
returns-clause-answer c =
    let at : c.line_length-count.result ≡ position_or_len is_line_feed c.args.window.now = cc in
    let join : c.extend_from_slice.new.self.items ≡ c.args.held.now.items ++ take c.line_length-count.result c.args.window.now =
    rw c.bytes-ahead.ensures.value at c.in_ok-extend_from_slice.ensures.items in
    let found : c.line_length-count.result < length c.args.window.now = omega (arith, ap length c.bytes-ahead.ensures.value) in
    let fits = still_fits c.args.held.now.items c.args.window.now c.extend_from_slice.new.self.items c.line_length-count.result c.requires at (omega arith) join in
    let cut = line_found c.args.held.now.items c.args.window.now c.extend_from_slice.new.self.items c.line_length-count.result at found join in
    let line : c.from_vec.result ≡ c.extend_from_slice.new.self.items = cc in
    (rw line fits, rw (line, c.consume-2.ensures.rest, c.consume.ensures.rest) cut, cc)
