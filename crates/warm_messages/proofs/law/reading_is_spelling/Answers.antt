use Rattle.warm_messages.proofs.Messages.{alive_spells, spelled_alive, share_spells, spelled_share}
use Rattle.warm_messages.proofs.Items.{first_spells, spelled_first}
use Rattle.warm_messages.proofs.law.reading_is_spelling.Goals as goal

pub returns : goal.returns
returns c = record {
  alive = λ message bytes. (alive_spells message bytes, spelled_alive message bytes);
  share = λ message bytes. (share_spells message bytes, spelled_share message bytes);
  first = λ n bytes. (first_spells n bytes, spelled_first n bytes);
}
