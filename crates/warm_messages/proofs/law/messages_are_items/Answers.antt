use Rattle.cbor_items.proofs.Fronts.{scan_again}
use Rattle.warm_messages.proofs.Items.{alive_is_item, share_is_item}
use Rattle.warm_messages.proofs.law.messages_are_items.Goals as goal

pub returns : goal.returns
returns c = record {
  alive = λ message bytes is. let item = alive_is_item message bytes is in (item, λ rest. scan_again bytes rest item);
  share = λ message bytes is. let item = share_is_item message bytes is in (item, λ rest. scan_again bytes rest item);
}
