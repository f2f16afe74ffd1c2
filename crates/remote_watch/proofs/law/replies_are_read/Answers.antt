use Rattle.std.proofs.Common.{◌≡◌, [], ◌∷◌, Some, refl}
use Rattle.cbor_items.specs.Head.{head_at}
use Rattle.cbor_items.specs.Front.{definite_at}
use Rattle.cbor_items.specs.Scan.{scan_of, skip_item, skip_row, skip_nested_content, skip_flat_content}
use Rattle.warm_messages.specs.First.{first_number_of, item_number_of}
use Rattle.warm_messages.specs.Reading.{opening_at}
use Rattle.warm_messages.proofs.Messages.{spelled_alive, spelled_share}
use Rattle.warm_messages.proofs.Written.{alive_written, peers_written}
use Rattle.warm_messages.specs.declared.alive.Alive.TheVariants as alive
use Rattle.warm_messages.specs.declared.share.Share.TheVariants as share
use Rattle.remote_watch.proofs.law.replies_are_read.Goals as goal

no_intersect_is : first_number_of (0x82 ∷ 0x06 ∷ 0x82 ∷ 0x80 ∷ 0x00 ∷ []) ≡ Some 6
unfolding first_number_of item_number_of scan_of skip_item skip_row skip_nested_content skip_flat_content opening_at definite_at head_at
no_intersect_is = refl

await_is : first_number_of (0x81 ∷ 0x01 ∷ []) ≡ Some 1
unfolding first_number_of item_number_of scan_of skip_item skip_row skip_nested_content skip_flat_content opening_at definite_at head_at
await_is = refl

no_blocks_is : first_number_of (0x81 ∷ 0x03 ∷ []) ≡ Some 3
unfolding first_number_of item_number_of scan_of skip_item skip_row skip_nested_content skip_flat_content opening_at definite_at head_at
no_blocks_is = refl

pub returns : goal.returns
returns c = record {
  no_intersect = λ peers. no_intersect_is;
  await = λ peers. await_is;
  no_blocks = λ peers. no_blocks_is;
  cookie = λ n peers fits. spelled_alive (alive.Reply n) _ (alive_written (alive.Reply n) fits);
  told = λ n peers all short. spelled_share (share.Peers peers) _ (peers_written peers all short);
}
