-- Worked traces, computed.
use Rattle.std.proofs.Common.{refl}
use Rattle.accept_gate.specs.Prune.{first_to_go}
use Rattle.cbor_items.specs.Head.{head_at, shortest_head}
use Rattle.cbor_items.specs.Front.{definite_at}
use Rattle.cbor_items.specs.Scan.{skip_row, skip_to_break, skip_chunk, skip_flat_content, skip_nested_content, skip_item, scan_of}
use Rattle.mux_segment.specs.Frame.{pieces_within, pieces_of, frame_of}
use Rattle.mux_segment.specs.Items.{taken_within, taken_of}
use Rattle.mux_segment.specs.Parts.{part_bytes, without_part, with_part}
use Rattle.mux_segment.specs.Segment.{segment_at, cut_within, cut_of}
use Rattle.mux_segment.specs.Stream.{segment_decoded, decoded, fed_by}
use Rattle.hs_message.specs.Canonical.{node_spelling}
use Rattle.hs_message.specs.Reading.{definite_array_at, flag_at, bit_at, magic_at, version_info_at, known_of, offer_at, row_at, table_at, row_to_break_at, version_list_at, text_at, tag_at, noted_at, reason_at, message_at, message_with, message_of}
use Rattle.warm_messages.specs.First.{item_number_of}
use Rattle.warm_messages.specs.Reading.{opening_at, elements_at, numbers_at, address_at, addresses_at, alive_of, peers_at, share_of}
use Rattle.pick_policy.specs.Least.{least_by}
use Rattle.root_groups.specs.Cleaned.{first_places, cleaned_after}
use Rattle.share_rounds.specs.Rounds.{taken_after}
use Rattle.machine.specs.Deadlines.{fire_due}
use Rattle.machine.specs.Effect.{for_each}
use Rattle.machine.specs.Run.{actions_of}
use Rattle.machine.specs.Worked.{AllRun}

pub all_run : AllRun
unfolding first_to_go head_at shortest_head skip_row skip_to_break skip_chunk skip_flat_content skip_nested_content skip_item scan_of pieces_within pieces_of frame_of taken_within taken_of part_bytes without_part with_part segment_at cut_within cut_of segment_decoded decoded fed_by node_spelling definite_at definite_array_at flag_at bit_at magic_at version_info_at known_of offer_at row_at table_at row_to_break_at version_list_at text_at tag_at noted_at reason_at message_at message_with message_of item_number_of opening_at elements_at numbers_at address_at addresses_at alive_of peers_at share_of least_by first_places cleaned_after taken_after fire_due for_each actions_of
all_run = record {
  lasting = record {
    public_roots_stay_runs = refl;
    dialed_after_the_time_wait_runs = refl;
    turned_away_for_the_first_cause_runs = refl;
    one_grace_goes_on_runs = refl;
    greeting_closed_ends_once_runs = refl;
    asked_once_runs = refl;
    released_once_it_has_answered_runs = refl;
    let_in_beside_a_time_wait_runs = refl;
    closed_in_its_time_wait_runs = refl;
    halves_on_two_connections_runs = refl;
    one_answer_leaves_the_other_wait_runs = refl;
    unused_end_is_no_failure_runs = refl;
  };
  laws = record {
    share_answer_is_late_runs = refl;
    provider_is_left_alone_runs = refl;
    one_protocol_is_done_runs = refl;
    sharing_is_turned_off_runs = refl;
    private_group_is_not_told_runs = refl;
    public_root_is_not_told_runs = refl;
    back_off_outlives_the_groups_runs = refl;
    own_address_is_no_peer_runs = refl;
    answer_is_no_failure_runs = refl;
    accepting_goes_on_where_somebody_goes_runs = refl;
    asked_only_where_agreed_runs = refl;
    promoted_after_the_lowered_target_runs = refl;
  };
  handshakes = record {
    inbound_duplex_accept_runs = refl;
    inbound_no_common_version_runs = refl;
    inbound_other_magic_runs = refl;
    inbound_query_runs = refl;
    handshake_wait_inbound_runs = refl;
    greeting_break_alone_runs = refl;
    greeting_no_message_runs = refl;
    greeting_unknown_protocol_runs = refl;
    greeting_wrong_side_runs = refl;
    greeting_other_protocol_runs = refl;
    greeting_cut_header_runs = refl;
  };
  responders = record {
    idle_grace_timer_first_runs = refl;
    idle_grace_bytes_first_runs = refl;
    inbound_empty_chain_runs = refl;
    keep_alive_and_done_in_one_segment_runs = refl;
    negotiated_unowed_reply_runs = refl;
    negotiated_handshake_item_runs = refl;
    negotiated_no_keep_alive_runs = refl;
    negotiated_no_first_number_runs = refl;
    negotiated_passed_over_runs = refl;
    negotiated_done_awakes_first_runs = refl;
    negotiated_share_request_of_hundred_runs = refl;
  };
  outbound = record {
    outbound_duplex_life_runs = refl;
    outbound_release_within_grace_runs = refl;
    inbound_reused_outbound_runs = refl;
    reuse_keeps_grace_runs = refl;
    reply_wait_after_grace_runs = refl;
    hot_and_warm_again_runs = refl;
  };
  crossings = record {
    crossing_own_lower_runs = refl;
    crossing_own_higher_runs = refl;
    accepted_own_address_runs = refl;
    accepted_present_greeting_runs = refl;
    accepted_present_negotiated_runs = refl;
    simultaneous_open_runs = refl;
  };
  limits = record {
    accept_limits_runs = refl;
    prune_newest_greeting_runs = refl;
    prune_idle_before_greeting_runs = refl;
    prune_the_woken_itself_runs = refl;
  };
  governor = record {
    targets_ask_roots_and_dial_runs = refl;
    release_least_score_runs = refl;
    release_score_wraps_runs = refl;
    pending_counts_runs = refl;
    backoff_first_runs = refl;
    backoff_seven_failures_runs = refl;
    local_valency_above_target_runs = refl;
    locals_cleaned_runs = refl;
    one_round_runs = refl;
  };
  sharing = record {
    share_answer_adds_peer_runs = refl;
    told_peer_is_dialed_runs = refl;
    share_answer_too_many_runs = refl;
    share_request_of_one_runs = refl;
    share_answer_above_target_runs = refl;
    share_served_without_asker_runs = refl;
    share_answer_ipv6_taken_runs = refl;
    share_answer_ipv6_passed_over_runs = refl;
  };
  big_peers = record {
    big_fewer_failures_first_runs = refl;
    big_made_ordinary_by_locals_runs = refl;
    big_counted_apart_runs = refl;
    big_forgotten_apart_runs = refl;
  };
  distinct = record {
    pause_grows_runs = refl;
    inbound_waits_runs = refl;
    dial_answered_again_runs = refl;
    dialer_on_other_sides_runs = refl;
    inbound_unidirectional_served_runs = refl;
    reply_wait_and_back_off_runs = refl;
    release_trims_runs = refl;
    overwritten_is_no_failure_runs = refl;
  };
  distinct_peers = record {
    success_forgets_failures_runs = refl;
    asked_again_after_the_gap_runs = refl;
    roots_up_to_their_target_runs = refl;
    big_targets_lowered_runs = refl;
    bigs_below_the_lowered_target_runs = refl;
    answer_below_the_lowered_target_runs = refl;
  };
}
