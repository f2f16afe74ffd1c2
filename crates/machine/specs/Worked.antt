-- What the machine does on worked traces, computed from its definitions.
use Rattle.machine.specs.Traces.{IsRun}
use Rattle.machine.specs.HandshakeTraces.{inbound_duplex_accept, inbound_no_common_version, inbound_other_magic, inbound_query, handshake_wait_inbound, greeting_break_alone, greeting_no_message, greeting_unknown_protocol, greeting_wrong_side, greeting_other_protocol, greeting_cut_header}
use Rattle.machine.specs.ResponderTraces.{idle_grace_timer_first, idle_grace_bytes_first, inbound_empty_chain, keep_alive_and_done_in_one_segment, negotiated_unowed_reply, negotiated_handshake_item, negotiated_no_keep_alive, negotiated_no_first_number, negotiated_passed_over, negotiated_done_awakes_first, negotiated_share_request_of_hundred}
use Rattle.machine.specs.OutboundTraces.{outbound_duplex_life, outbound_release_within_grace, inbound_reused_outbound, reuse_keeps_grace, reply_wait_after_grace, hot_and_warm_again}
use Rattle.machine.specs.CrossingTraces.{crossing_own_lower, crossing_own_higher, accepted_own_address, accepted_present_greeting, accepted_present_negotiated, simultaneous_open}
use Rattle.machine.specs.LimitTraces.{accept_limits, prune_newest_greeting, prune_idle_before_greeting, prune_the_woken_itself}
use Rattle.machine.specs.GovernorTraces.{targets_ask_roots_and_dial, release_least_score, release_score_wraps, pending_counts, backoff_first, backoff_seven_failures, local_valency_above_target, locals_cleaned, one_round}
use Rattle.machine.specs.SharingTraces.{share_answer_adds_peer, told_peer_is_dialed, share_answer_too_many, share_request_of_one, share_answer_above_target, share_served_without_asker, share_answer_ipv6_taken, share_answer_ipv6_passed_over}
use Rattle.machine.specs.BigPeerTraces.{big_fewer_failures_first, big_made_ordinary_by_locals, big_counted_apart, big_forgotten_apart}
use Rattle.machine.specs.DistinctTraces.{pause_grows, inbound_waits, dial_answered_again, dialer_on_other_sides, inbound_unidirectional_served, reply_wait_and_back_off, release_trims, overwritten_is_no_failure}
use Rattle.machine.specs.LastingTraces.{public_roots_stay, dialed_after_the_time_wait, turned_away_for_the_first_cause, one_grace_goes_on, greeting_closed_ends_once, asked_once, released_once_it_has_answered, let_in_beside_a_time_wait, closed_in_its_time_wait, halves_on_two_connections, one_answer_leaves_the_other_wait, unused_end_is_no_failure}
use Rattle.machine.specs.LawTraces.{share_answer_is_late, provider_is_left_alone, one_protocol_is_done, sharing_is_turned_off, private_group_is_not_told, public_root_is_not_told, back_off_outlives_the_groups, own_address_is_no_peer, answer_is_no_failure, accepting_goes_on_where_somebody_goes, asked_only_where_agreed, promoted_after_the_lowered_target}
use Rattle.machine.specs.DistinctPeerTraces.{success_forgets_failures, asked_again_after_the_gap, roots_up_to_their_target, big_targets_lowered, bigs_below_the_lowered_target, answer_below_the_lowered_target}

pub record HandshakesRun : Type 0 where
  pub inbound_duplex_accept_runs : IsRun inbound_duplex_accept
  pub inbound_no_common_version_runs : IsRun inbound_no_common_version
  pub inbound_other_magic_runs : IsRun inbound_other_magic
  pub inbound_query_runs : IsRun inbound_query
  pub handshake_wait_inbound_runs : IsRun handshake_wait_inbound
  pub greeting_break_alone_runs : IsRun greeting_break_alone
  pub greeting_no_message_runs : IsRun greeting_no_message
  pub greeting_unknown_protocol_runs : IsRun greeting_unknown_protocol
  pub greeting_wrong_side_runs : IsRun greeting_wrong_side
  pub greeting_other_protocol_runs : IsRun greeting_other_protocol
  pub greeting_cut_header_runs : IsRun greeting_cut_header

pub record RespondersRun : Type 0 where
  pub idle_grace_timer_first_runs : IsRun idle_grace_timer_first
  pub idle_grace_bytes_first_runs : IsRun idle_grace_bytes_first
  pub inbound_empty_chain_runs : IsRun inbound_empty_chain
  pub keep_alive_and_done_in_one_segment_runs : IsRun keep_alive_and_done_in_one_segment
  pub negotiated_unowed_reply_runs : IsRun negotiated_unowed_reply
  pub negotiated_handshake_item_runs : IsRun negotiated_handshake_item
  pub negotiated_no_keep_alive_runs : IsRun negotiated_no_keep_alive
  pub negotiated_no_first_number_runs : IsRun negotiated_no_first_number
  pub negotiated_passed_over_runs : IsRun negotiated_passed_over
  pub negotiated_done_awakes_first_runs : IsRun negotiated_done_awakes_first
  pub negotiated_share_request_of_hundred_runs : IsRun negotiated_share_request_of_hundred

pub record OutboundsRun : Type 0 where
  pub outbound_duplex_life_runs : IsRun outbound_duplex_life
  pub outbound_release_within_grace_runs : IsRun outbound_release_within_grace
  pub inbound_reused_outbound_runs : IsRun inbound_reused_outbound
  pub reuse_keeps_grace_runs : IsRun reuse_keeps_grace
  pub reply_wait_after_grace_runs : IsRun reply_wait_after_grace
  pub hot_and_warm_again_runs : IsRun hot_and_warm_again

pub record CrossingsRun : Type 0 where
  pub crossing_own_lower_runs : IsRun crossing_own_lower
  pub crossing_own_higher_runs : IsRun crossing_own_higher
  pub accepted_own_address_runs : IsRun accepted_own_address
  pub accepted_present_greeting_runs : IsRun accepted_present_greeting
  pub accepted_present_negotiated_runs : IsRun accepted_present_negotiated
  pub simultaneous_open_runs : IsRun simultaneous_open

pub record LimitsRun : Type 0 where
  pub accept_limits_runs : IsRun accept_limits
  pub prune_newest_greeting_runs : IsRun prune_newest_greeting
  pub prune_idle_before_greeting_runs : IsRun prune_idle_before_greeting
  pub prune_the_woken_itself_runs : IsRun prune_the_woken_itself

pub record GovernorsRun : Type 0 where
  pub targets_ask_roots_and_dial_runs : IsRun targets_ask_roots_and_dial
  pub release_least_score_runs : IsRun release_least_score
  pub release_score_wraps_runs : IsRun release_score_wraps
  pub pending_counts_runs : IsRun pending_counts
  pub backoff_first_runs : IsRun backoff_first
  pub backoff_seven_failures_runs : IsRun backoff_seven_failures
  pub local_valency_above_target_runs : IsRun local_valency_above_target
  pub locals_cleaned_runs : IsRun locals_cleaned
  pub one_round_runs : IsRun one_round

pub record SharingsRun : Type 0 where
  pub share_answer_adds_peer_runs : IsRun share_answer_adds_peer
  pub told_peer_is_dialed_runs : IsRun told_peer_is_dialed
  pub share_answer_too_many_runs : IsRun share_answer_too_many
  pub share_request_of_one_runs : IsRun share_request_of_one
  pub share_answer_above_target_runs : IsRun share_answer_above_target
  pub share_served_without_asker_runs : IsRun share_served_without_asker
  pub share_answer_ipv6_taken_runs : IsRun share_answer_ipv6_taken
  pub share_answer_ipv6_passed_over_runs : IsRun share_answer_ipv6_passed_over

pub record BigPeersRun : Type 0 where
  pub big_fewer_failures_first_runs : IsRun big_fewer_failures_first
  pub big_made_ordinary_by_locals_runs : IsRun big_made_ordinary_by_locals
  pub big_counted_apart_runs : IsRun big_counted_apart
  pub big_forgotten_apart_runs : IsRun big_forgotten_apart

pub record DistinctRun : Type 0 where
  pub pause_grows_runs : IsRun pause_grows
  pub inbound_waits_runs : IsRun inbound_waits
  pub dial_answered_again_runs : IsRun dial_answered_again
  pub dialer_on_other_sides_runs : IsRun dialer_on_other_sides
  pub inbound_unidirectional_served_runs : IsRun inbound_unidirectional_served
  pub reply_wait_and_back_off_runs : IsRun reply_wait_and_back_off
  pub release_trims_runs : IsRun release_trims
  pub overwritten_is_no_failure_runs : IsRun overwritten_is_no_failure

pub record DistinctPeersRun : Type 0 where
  pub success_forgets_failures_runs : IsRun success_forgets_failures
  pub asked_again_after_the_gap_runs : IsRun asked_again_after_the_gap
  pub roots_up_to_their_target_runs : IsRun roots_up_to_their_target
  pub big_targets_lowered_runs : IsRun big_targets_lowered
  pub bigs_below_the_lowered_target_runs : IsRun bigs_below_the_lowered_target
  pub answer_below_the_lowered_target_runs : IsRun answer_below_the_lowered_target

pub record LastingRun : Type 0 where
  pub public_roots_stay_runs : IsRun public_roots_stay
  pub dialed_after_the_time_wait_runs : IsRun dialed_after_the_time_wait
  pub turned_away_for_the_first_cause_runs : IsRun turned_away_for_the_first_cause
  pub one_grace_goes_on_runs : IsRun one_grace_goes_on
  pub greeting_closed_ends_once_runs : IsRun greeting_closed_ends_once
  pub asked_once_runs : IsRun asked_once
  pub released_once_it_has_answered_runs : IsRun released_once_it_has_answered
  pub let_in_beside_a_time_wait_runs : IsRun let_in_beside_a_time_wait
  pub closed_in_its_time_wait_runs : IsRun closed_in_its_time_wait
  pub halves_on_two_connections_runs : IsRun halves_on_two_connections
  pub one_answer_leaves_the_other_wait_runs : IsRun one_answer_leaves_the_other_wait
  pub unused_end_is_no_failure_runs : IsRun unused_end_is_no_failure

pub record LawsRun : Type 0 where
  pub share_answer_is_late_runs : IsRun share_answer_is_late
  pub provider_is_left_alone_runs : IsRun provider_is_left_alone
  pub one_protocol_is_done_runs : IsRun one_protocol_is_done
  pub sharing_is_turned_off_runs : IsRun sharing_is_turned_off
  pub private_group_is_not_told_runs : IsRun private_group_is_not_told
  pub public_root_is_not_told_runs : IsRun public_root_is_not_told
  pub back_off_outlives_the_groups_runs : IsRun back_off_outlives_the_groups
  pub own_address_is_no_peer_runs : IsRun own_address_is_no_peer
  pub answer_is_no_failure_runs : IsRun answer_is_no_failure
  pub accepting_goes_on_where_somebody_goes_runs : IsRun accepting_goes_on_where_somebody_goes
  pub asked_only_where_agreed_runs : IsRun asked_only_where_agreed
  pub promoted_after_the_lowered_target_runs : IsRun promoted_after_the_lowered_target

pub record AllRun : Type 0 where
  pub lasting : LastingRun
  pub laws : LawsRun
  pub handshakes : HandshakesRun
  pub responders : RespondersRun
  pub outbound : OutboundsRun
  pub crossings : CrossingsRun
  pub limits : LimitsRun
  pub governor : GovernorsRun
  pub sharing : SharingsRun
  pub big_peers : BigPeersRun
  pub distinct : DistinctRun
  pub distinct_peers : DistinctPeersRun
