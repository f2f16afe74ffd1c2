use Rattle.std.proofs.Common.{◌≡◌, ℕ, List, [], sym, subst}
use Rattle.std.proofs.lemmas.Result.{err_from_is_err_and}
use Rattle.line_run.specs.LineRead.{line_put}
use Rattle.line_run.specs.UnderWay.{IsUnderWay}
use Rattle.line_run.proofs.Ways.{way_front, way_cut, memory_next, read_next, writes_calm}
use Rattle.line_run.proofs.running.next_line.Goals as goal

pub returns-in_err-put-in-Ok-false-clause-next : goal.returns-in_err-put-in-Ok-false-clause-next
returns-in_err-put-in-Ok-false-clause-next g c = λ start state left taken way.
    let p = err_from_is_err_and c.from_residual.result c.from_residual.ensures.1 in
    rw (p.1, p.2, c.in_err-put-in-Ok-false.ensures.fault)
    (way_cut g.I.Interpreter.means start c.args.number state c.args.reader.now c.args.pieces.now left (g.S.Source.left c.args.src.now) taken (g.K.Sink.taken c.args.out.now) (g.K.Sink.taken c.put.new.out) way
    c.in_err-put-in-Ok-false.ensures.part)

pub returns-in_ok-put-in-Ok-false-clause-next : goal.returns-in_ok-put-in-Ok-false-clause-next
returns-in_ok-put-in-Ok-false-clause-next g c = λ start state left taken way.
    let means = g.I.Interpreter.means in
    let answer = rw c.in-Ok-false.field-0-test at c.in-Ok-false.ensures.answer in
    let silent : c.put.new.pieces ≡ [] = c.in_ok-put-in-Ok-false.ensures.silent in
    let kept : IsUnderWay means start c.args.number state c.kept_line.new.self c.args.pieces.now left (g.S.Source.left c.args.src.now) taken (g.K.Sink.taken c.args.out.now) =
    subst (λ (bytes : List ℕ). IsUnderWay means start c.args.number state bytes c.args.pieces.now left (g.S.Source.left c.args.src.now) taken (g.K.Sink.taken c.args.out.now)) (sym answer.1) way in
    let put = way_front means start c.args.number state c.kept_line.new.self c.args.pieces.now c.put.new.pieces left (g.S.Source.left c.args.src.now) taken (g.K.Sink.taken c.args.out.now)
    (g.K.Sink.taken c.put.new.out) kept c.put.ensures.front in
    let none : IsUnderWay means start c.args.number state c.kept_line.new.self [] left (g.S.Source.left c.args.src.now) taken (g.K.Sink.taken c.put.new.out) =
    subst (λ (bytes : List ℕ). IsUnderWay means start c.args.number state c.kept_line.new.self bytes left (g.S.Source.left c.args.src.now) taken (g.K.Sink.taken c.put.new.out)) silent put in
    rw silent (read_next means start c.args.number state c.kept_line.new.self c.read_line.new.reader left (g.S.Source.left c.args.src.now) (g.S.Source.left c.read_line.new.src) taken
    (g.K.Sink.taken c.put.new.out) (line_put c.read_line.new.line.items c.read_line.result) c.requires.few none c.read_line.ensures.read)

pub returns-in_ok-put-in-Ok-false-clause-writes : goal.returns-in_ok-put-in-Ok-false-clause-writes
returns-in_ok-put-in-Ok-false-clause-writes g c =
    writes_calm (g.K.Sink.faults c.args.out.now) (g.K.Sink.faults c.put.new.out) c.read_line.result c.in_ok-put-in-Ok-false.ensures.cause.calm
    (c.read_line.ensures.writes (g.K.Sink.faults c.args.out.now))

pub returns-in-Err-clause-next : goal.returns-in-Err-clause-next
returns-in-Err-clause-next g c = λ start state left taken way.
    memory_next g.I.Interpreter.means start c.args.number state c.args.reader.now c.args.pieces.now left (g.S.Source.left c.args.src.now) taken (g.K.Sink.taken c.args.out.now) way
