-- A pair that agrees across networks, led to an agreement that is not right.
use Rattle.std.proofs.Common.{◌≡◌, ℕ, false, true, List, [], ◌∷◌, refl, lit<}
use Rattle.cbor_items.specs.Front.{definite_at}
use Rattle.cbor_items.specs.Head.{head_at, shortest_head}
use Rattle.cbor_items.specs.Scan.{skip_row, skip_to_break, skip_chunk, skip_flat_content, skip_nested_content, skip_item, scan_of}
use Rattle.hs_message.specs.Canonical.{node_spelling}
use Rattle.hs_message.specs.Reading.{definite_array_at, flag_at, bit_at, magic_at, version_info_at, known_of, offer_at, row_at, table_at, row_to_break_at, version_list_at, text_at, tag_at, noted_at, reason_at, message_at, message_with, message_of}
use Rattle.hs_message.specs.declared.info.VersionInfo.{VersionInfo}
use Rattle.mux_segment.specs.Frame.{pieces_within, pieces_of, frame_of}
use Rattle.mux_segment.specs.Items.{taken_within, taken_of}
use Rattle.mux_segment.specs.Parts.{part_bytes, without_part, with_part}
use Rattle.mux_segment.specs.Segment.{segment_at, cut_within, cut_of}
use Rattle.mux_segment.specs.Stream.{segment_decoded, decoded, fed_by}
use Rattle.net_base.specs.declared.connection.Agreed.{Agreed as AgreedOn}
use Rattle.pair_net.specs.Hearing.{heard}
use Rattle.pair_net.specs.Pair.{PairState, fresh_pair}
use Rattle.pair_net.specs.Steps.{led_by}
use Rattle.pair_net.specs.WrongPairs.{agrees_across_networks, AgreesWrongly}
use Rattle.pair_net.specs.declared.end.End.TheVariants.{Left, Right}
use Rattle.pair_net.specs.declared.end.EndPhase.TheVariants.{Agreed}
use Rattle.pair_net.specs.declared.pair_step.PairStep.{PairStep}
use Rattle.pair_net.specs.declared.pair_step.PairStep.TheVariants.{Meet, Deliver}

of_network : ℕ → VersionInfo
of_network magic = record { magic = magic; initiator_only = false; sharing = true; query = false }

steps : List PairStep
steps = Meet Left ∷ Deliver Right 100 ∷ Deliver Left 100 ∷ []

last : PairState
last = led_by agrees_across_networks steps (fresh_pair (of_network 1) (of_network 2))

agreed_on : AgreedOn
agreed_on = record { version = 14; initiator_only = false; sharing = true }

both_agree : (last.left.phase ≡ Agreed agreed_on) × (last.right.phase ≡ Agreed agreed_on)
unfolding last steps of_network agreed_on heard head_at shortest_head skip_row skip_to_break skip_chunk skip_flat_content skip_nested_content skip_item scan_of pieces_within pieces_of frame_of taken_within taken_of part_bytes without_part with_part segment_at cut_within cut_of segment_decoded decoded fed_by node_spelling definite_at definite_array_at flag_at bit_at magic_at version_info_at known_of offer_at row_at table_at row_to_break_at version_list_at text_at tag_at noted_at reason_at message_at message_with message_of
both_agree = (refl, refl)

pub agrees_wrongly : AgreesWrongly
unfolding last steps of_network
agrees_wrongly law =
    let right = law (of_network 1) (of_network 2) steps (record { offers = refl; magic = lit< tt }) (record { offers = refl; magic = lit< tt }) agreed_on agreed_on both_agree.0 both_agree.1 in
    apart right.one_network
  where
    apart : ◌≡◌ {A = ℕ} 1 2 → ⊥
    apart e = absurd cc
