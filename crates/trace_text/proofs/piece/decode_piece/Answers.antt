use Rattle.std.proofs.Common.{◌≡◌, ◌≤◌, ◌%◌, OnErr, Result, Ok, Err, true, length, arith}
use Rattle.std.specs.List.{list_all}
use Rattle.trace_text.specs.Events.{is_lower_digit}
use Rattle.trace_text.proofs.HexPieces.{piece_is_some}
use Rattle.trace_text.proofs.piece.decode_piece.Goals as goal

on_err : {A E P : Type 0} (r : Result A E) → P → OnErr r P
on_err (Ok x) p = tt
on_err (Err e) p = p

pub returns-in_err-bytes-clause-memory : goal.returns-in_err-bytes-clause-memory
returns-in_err-bytes-clause-memory c =
    let word = c.args.word.now in
    let least : 2 ≤ length word = omega (arith, c.if-word-lt2.false) in
    let most : length word ≤ 131072 = omega (arith, c.if-word-gt-DIGITS_MOST.false) in
    let even : length word % 2 ≡ 0 = omega (arith, c.if-word-eq1.false) in
    let lower : list_all is_lower_digit word ≡ true = c.requires in
    on_err c.from_residual.result (piece_is_some word lower least most even)
