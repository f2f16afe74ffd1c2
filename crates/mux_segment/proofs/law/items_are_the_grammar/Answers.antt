use Rattle.mux_segment.proofs.Grammars.{some_items, only_items}
use Rattle.mux_segment.proofs.law.items_are_the_grammar.Goals as goal

pub returns : goal.returns
returns c = record {
  some = some_items;
  only = λ limit part bodies behind fault is. only_items limit bodies part behind fault is;
}
