use Rattle.std.proofs.Common.{ap, ◌∙◌, ◌++◌, ◌∷◌, [], arith}
use Rattle.std.proofs.lemmas.Result.{on_ok_weaker, on_err_weaker}
use Rattle.chunked_list.specs.Chunks.{items_in}
use Rattle.chunked_list.proofs.Edits.{same_in_chunk}
use Rattle.chunked_list.proofs.Numbers.{pushed_on_last, starts-last}
use Rattle.chunked_list.proofs.edit.push_within.Goals as goal

pub returns-clause-ok : goal.returns-clause-ok
returns-clause-ok g c =
    let old = c.index_mut.result.now in
    on_ok_weaker c.push.result
    (λ e. pushed_on_last c.args.chunks.now.items c.args.last c.push.new.self old c.args.item c.requires.last
    (e ∙ ap (λ x. items_in x ++ c.args.item ∷ []) c.index_mut.ensures.value)) c.push.ensures.ok

pub returns-clause-err : goal.returns-clause-err
returns-clause-err g c =
    on_err_weaker c.push.result
    (λ e. same_in_chunk c.args.chunks.now.items c.args.last 0 c.push.new.self c.index_mut.result.now (omega (arith, c.requires.last))
    (e ∙ ap items_in c.index_mut.ensures.value)) c.push.ensures.err

pub returns-clause-numbers : goal.returns-clause-numbers
returns-clause-numbers g c = starts-last 0 c.args.chunks.now.items c.args.last c.push.new.self c.requires.last
