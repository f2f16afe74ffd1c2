use Rattle.std.proofs.Common.{◌≡◌, ◌∷◌, ◌++◌, [], cond, true, sym, ap, ◌∙◌, arith}
use Rattle.std.specs.Result.{is_ok}
use Rattle.chunked_list.specs.Chunks.{starts}
use Rattle.chunked_list.proofs.Numbers.{starts-pushed}
use Rattle.chunked_list.proofs.edit.push_chunk.Goals as goal

pub returns-clause-numbers : goal.returns-clause-numbers
returns-clause-numbers g c =
    let cs = c.args.chunks.now.items in
    let went : is_ok c.push-3.result ≡ true = c.push-3.ensures.succeeds (omega (arith, c.in_ok-try_reserve.ensures.ok)) in
    c.push-3.ensures.items
    ∙ (ap (λ b. cond b (c.try_reserve.new.self.items ++ c.args.len ∷ []) c.try_reserve.new.self.items) went
    ∙ (ap (λ l. l ++ c.args.len ∷ []) (c.try_reserve.ensures.items ∙ c.requires.numbers)
    ∙ (sym (starts-pushed cs (record { items = c.push.new.self }) c.args.len c.requires.len)
    ∙ ap (starts 0) (sym c.in_ok-push-2.ensures.items))))
