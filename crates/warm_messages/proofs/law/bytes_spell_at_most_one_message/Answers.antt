use Rattle.std.proofs.Common.{◌≡◌, Some, sym, ◌∙◌}
use Rattle.warm_messages.proofs.Messages.{spelled_alive, spelled_share}
use Rattle.warm_messages.proofs.law.bytes_spell_at_most_one_message.Goals as goal

pub returns : goal.returns
returns c = record {
  alive = λ one other bytes first second. let e : Some one ≡ Some other = sym (spelled_alive one bytes first) ∙ spelled_alive other bytes second in cc;
  share = λ one other bytes first second. let e : Some one ≡ Some other = sym (spelled_share one bytes first) ∙ spelled_share other bytes second in cc;
}
