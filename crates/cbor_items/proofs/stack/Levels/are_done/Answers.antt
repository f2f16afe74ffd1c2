use Rattle.std.proofs.Common.{◌≡◌, length, vec_len, sym, ◌∙◌, arith}
use Rattle.std.proofs.lemmas.Bool.{eqb-true}
use Rattle.cbor_items.proofs.Resumes.{done_is, done_skips}
use Rattle.cbor_items.proofs.stack.Levels.are_done.Goals as goal

pub returns-then-is_done-clause-done : goal.returns-then-is_done-clause-done
returns-then-is_done-clause-done c done bytes =
    let around = c.args.self.now.around in
    let empty : vec_len around ≡ 0 = eqb-true (vec_len around) 0 (sym c.is_empty.ensures ∙ done) in
    let none : length around.items ≡ 0 = omega (arith, empty, around.ok.0) in
    rw (done_is c.args.self.now.here (sym c.is_done.ensures ∙ c.if-is_done.true)) (done_skips c.args.self.now.around.items none bytes)
