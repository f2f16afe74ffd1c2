use Rattle.std.proofs.Common.{sym, ◌∙◌}
use Rattle.warm_messages.proofs.Items.{first_spells, spelled_first, item_is_first}
use Rattle.warm_messages.proofs.law.items_need_no_scan.Goals as goal

pub returns : goal.returns
returns c = record {
  same = item_is_first;
  spelled = λ n bytes item. (λ e. first_spells n bytes (sym (item_is_first bytes item) ∙ e), λ is. item_is_first bytes item ∙ spelled_first n bytes is);
}
