use Rattle.std.proofs.Common.{◌∙◌, sym, subst}
use Rattle.io_edge.specs.Lines.{IsPastLimit}
use Rattle.io_edge.proofs.InputLemmas.{ReadsLine-input}
use Rattle.io_edge.proofs.ReadingLemmas.{ReadsLine-past}
use Rattle.io_edge.proofs.line_reader.LineReader.next_line.Goals as goal

pub returns-clause-stays : goal.returns-clause-stays
returns-clause-stays g c =
    λ past.
    let stays = ReadsLine-past _ _ _ _ _ c.find_line.ensures.answer (subst IsPastLimit (sym c.self.view_is) past) in
    (stays.0, stays.1 ∙ c.self.view_is)

pub returns-clause-input : goal.returns-clause-input
returns-clause-input g c = rw (← c.self.view_is) (ReadsLine-input _ _ _ _ _ c.find_line.ensures.answer)
