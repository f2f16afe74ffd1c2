-- The words of other crates that the laws are said in, passed on from one place. Declares nothing.
pub use Rattle.accept_gate.specs.Gate.{pause_of}
pub use Rattle.accept_gate.specs.Law.{IsFirstToGo}
pub use Rattle.accept_gate.specs.Prune.{choice_of, is_candidate, rank_of_candidate, goes_before, first_of}
unfoldable pub use Rattle.accept_gate.specs.Prune.{first_to_go}
pub use Rattle.accept_gate.specs.declared.prune.Candidate.{Candidate}
pub use Rattle.churn_clock.specs.Windows.{effective_big_of, effective_of}
pub use Rattle.conn_state.specs.Counted.{is_counted}
pub use Rattle.conn_state.specs.Moves.{accepted, agreed_inbound, agreed_outbound, acquired, awakened, expired, released, connected, closing, dialing, idled}
pub use Rattle.conn_state.specs.Names.{name_of, same_name, name_in_phase, name_in_use, name_place}
pub use Rattle.conn_state.specs.Protocols.{has_responder}
pub use Rattle.conn_state.specs.Use.{has_id, is_live, is_live_at, is_outbound, is_pending, opening_phase, live_phase, is_greeting_phase, is_outbound_by, is_acquirable, is_dialing, is_negotiated, runs, agreed_sharing, is_dialing_phase, is_for_remote, some_runs, with_responder, is_greeting, is_negotiated_phase, is_duplex, is_for_local}
pub use Rattle.govern_rules.specs.BigRules.{big_orders, everybody}
pub use Rattle.govern_rules.specs.Candidates.{is_eligible, may_be_deactivated, may_be_asked, may_be_forgotten, may_be_released, may_be_activated}
pub use Rattle.govern_rules.specs.ClassRules.{active_target, count_of, established_target, promotes}
pub use Rattle.govern_rules.specs.Links.{is_linked, owes_on_2, owes_on_10, owes_a_reply, can_share, some_link}
pub use Rattle.govern_rules.specs.Orders.{picks_of, orders_for, rated_of}
pub use Rattle.govern_rules.specs.Rules.{is_member_and, is_not_local, members_count, g4_orders, g5_orders, g9_orders, may_be_dropped, missing_of, g2_orders, g3_orders, g6_orders, g7_orders, g8_orders}
pub use Rattle.govern_rules.specs.declared.big_rule.BigRule.TheVariants.{B5, B3, B6, B8, B9}
pub use Rattle.govern_rules.specs.declared.link.Link.{Link}
pub use Rattle.govern_rules.specs.declared.order.Order.{Order}
pub use Rattle.govern_rules.specs.declared.order.Order.TheVariants.{Ask, Forget, Promote, Release, Activate, Deactivate}
pub use Rattle.hs_decide.specs.Agreement.{verdict_of, accepts_info, accepts_offer, agrees_info, agrees_on, meets_joined, meets_info, meets_offer, common_in, joined, same_magic}
pub use Rattle.hs_decide.specs.Answers.{answer_of, proposal_of}
pub use Rattle.hs_decide.specs.declared.role.Role.{Role}
pub use Rattle.hs_decide.specs.declared.role.Role.TheVariants.{Acceptor, Dialer}
pub use Rattle.hs_decide.specs.declared.verdict.Verdict.{Verdict}
pub use Rattle.hs_message.specs.Info.{is_node_version}
pub use Rattle.hs_message.specs.Reading.{message_of}
pub use Rattle.hs_message.specs.declared.info.Info.{Info}
pub use Rattle.hs_message.specs.declared.info.Info.TheVariants.{Known, Foreign}
pub use Rattle.hs_message.specs.declared.info.VersionInfo.{VersionInfo}
pub use Rattle.hs_message.specs.declared.message.Message.{Message}
pub use Rattle.hs_message.specs.declared.offer.Offer.{Offer}
pub use Rattle.hs_receive.specs.Receiving.{is_awaited, fits_side, kind_of, receives, receives_message}
pub use Rattle.machine.specs.Connections.{ending, with_entry, without_entry, entry_turns, is_missed, lost, lost_by, vanishes, closing_entry, grace_over, acquire, candidates_in, trim, release, awake, idle, dial, dial_opens, dial_fails, entry_goes, wait_over, says_done, entry_comes, is_used, candidate_of, is_agreed_inbound, is_agreed_outbound}
pub use Rattle.machine.specs.Deadlines.{fires_as, fires, deadlines, due, fires_some, fire_all, deadlines_of, phase_deadlines, grace_deadlines, reply_deadline, reply_kind}
unfoldable pub use Rattle.machine.specs.Deadlines.{fire_due}
pub use Rattle.machine.specs.Effect.{then_do, Effect, shared, unused, tells, nothing_more, as_move, on_entry, on_connection, Move, gone, Happened, promoted, activated, ended}
unfoldable pub use Rattle.machine.specs.Effect.{for_each}
pub use Rattle.machine.specs.Events.{turned_away, admitted, crossed, accepted_beside, peer_connects, closes, dialed, clock_shows, peer_closes, dial_ends, pause_notice}
pub use Rattle.machine.specs.Govern.{promoted_at, is_used_at, on_used, asks_peer, activates, deactivates, carries_out, promote, asks_roots, ordinary_rules, big_rules, rules, govern, activate, link_of, view_of}
pub use Rattle.machine.specs.Greeting.{role_of, judged, decided, greeted_by, greets, sends_answer}
pub use Rattle.machine.specs.Machine.{Machine, Entry, fresh_entry, counted_in, live_entry_at, entry_at, Owed, start_of, next_cid, facts_of}
pub use Rattle.machine.specs.Own.{own_info}
pub use Rattle.machine.specs.Peers.{peer_at, peer_changes, peer_fails, peer_becomes, peer_goes, peer_comes, turns_at, peer_is_ordinary, note_of_coming, peer_succeeds, peer_was_asked, note_of}
pub use Rattle.machine.specs.Provided.{comes_ordinary, is_wanted_big, comes_big, roots_say, locals_are, bigs_are, roots_answer, targets_are, big_targets_are}
pub use Rattle.machine.specs.Replies.{reply_on, owing, paid, with_reply, without_reply, sends_as_initiator, sends_as_responder, is_owed_on, peer_sharing_done, chain_sync_done, find_intersect}
unfoldable pub use Rattle.machine.specs.Run.{after_all}
pub use Rattle.machine.specs.Step.{step}
pub use Rattle.machine.specs.Stream.{handled_in, handled, faulted, handles, fed_with, feeds, comes_in, bytes_come_in}
pub use Rattle.machine.specs.Talking.{stops_if, serves, begins, takes_requests, asked_as, shares_address, taken_of, takes_addresses, pays, brings, answered_as, talks, replies, pays_chain_sync, pays_keep_alive, pays_peer_sharing}
pub use Rattle.mux_segment.specs.Frame.{frame_of}
pub use Rattle.mux_segment.specs.Protocols.{node_limits}
pub use Rattle.mux_segment.specs.Stream.{FedBy, fed_by}
pub use Rattle.mux_segment.specs.declared.fault.CutFault.{CutFault}
pub use Rattle.mux_segment.specs.declared.item.Item.{Item}
pub use Rattle.net_base.specs.Address.{same_ip, same_address, address_below, ip_below}
pub use Rattle.net_base.specs.Bounds.{AreSound, first_failing, settings_tests, is_interval}
pub use Rattle.net_base.specs.Peer.{failed_peer}
pub use Rattle.net_base.specs.Shared.{RootState, nothing_undecoded, Undecoded}
pub use Rattle.net_base.specs.Timer.{deadline_before, kind_place}
pub use Rattle.net_base.specs.declared.action.Action.{Action}
pub use Rattle.net_base.specs.declared.action.Action.TheVariants.{Pause, Close, AskRoots, Admit, Send, Turnaway, Dial, State}
pub use Rattle.net_base.specs.declared.action.Away.{Away}
pub use Rattle.net_base.specs.declared.action.Away.TheVariants.{OwnAddr, Crossed}
pub use Rattle.net_base.specs.declared.action.CloseCause.{CloseCause}
pub use Rattle.net_base.specs.declared.action.CloseCause.TheVariants.{Overwritten, Unused, Pruned, Refused, Query, Fault}
pub use Rattle.net_base.specs.declared.action.FaultKind.{FaultKind}
pub use Rattle.net_base.specs.declared.action.FaultKind.TheVariants.{Malformed, Protocol, HandshakeWait, ReplyWait, UnknownId}
pub use Rattle.net_base.specs.declared.action.PeerNote.{PeerNote}
pub use Rattle.net_base.specs.declared.action.StateName.{StateName}
pub use Rattle.net_base.specs.declared.action.StateName.TheVariants.{Terminated, ReservedOutbound, UnnegotiatedInbound, UnnegotiatedOutbound, Duplex, OutboundUni, OutboundDupTicking, OutboundDupExpired, Inbound, InboundIdle, OutboundIdle, Terminating}
pub use Rattle.net_base.specs.declared.address.Addr.{Addr}
pub use Rattle.net_base.specs.declared.address.Ip.{Ip}
pub use Rattle.net_base.specs.declared.address.Ip.TheVariants.{V4, V6}
pub use Rattle.net_base.specs.declared.connection.Agreed.{Agreed}
pub use Rattle.net_base.specs.declared.connection.Cid.{Cid}
pub use Rattle.net_base.specs.declared.connection.Facts.{Facts}
pub use Rattle.net_base.specs.declared.connection.Grace.{Grace}
pub use Rattle.net_base.specs.declared.connection.Grace.TheVariants.{Off, ForRemote, ForLocal}
pub use Rattle.net_base.specs.declared.connection.Phase.{Phase}
pub use Rattle.net_base.specs.declared.connection.Phase.TheVariants.{Closing, Greeting, Negotiated, Dialing}
pub use Rattle.net_base.specs.declared.connection.Provenance.{Provenance}
pub use Rattle.net_base.specs.declared.connection.Provenance.TheVariants.{FromRemote, FromLocal}
pub use Rattle.net_base.specs.declared.connection.Responders.{Responders}
pub use Rattle.net_base.specs.declared.event.Event.{Event}
pub use Rattle.net_base.specs.declared.event.Event.TheVariants.{Now, Govern, Accepted, Dialed, Bytes, Closed, Aims, Locals, Roots, BigAims, Bigs}
pub use Rattle.net_base.specs.declared.event.Group.{Group}
pub use Rattle.net_base.specs.declared.event.Job.{Job}
pub use Rattle.net_base.specs.declared.event.RootAnswer.{RootAnswer}
pub use Rattle.net_base.specs.declared.event.RootAnswer.TheVariants.{Found, Failed}
pub use Rattle.net_base.specs.declared.peer.Peer.{Peer}
pub use Rattle.net_base.specs.declared.peer.Temp.{Temp}
pub use Rattle.net_base.specs.declared.peer.Temp.TheVariants.{Cold, Warm, Hot}
pub use Rattle.net_base.specs.declared.settings.Field.{Field}
pub use Rattle.net_base.specs.declared.settings.Field.TheVariants.{Version}
pub use Rattle.net_base.specs.declared.settings.Settings.{Settings}
pub use Rattle.net_base.specs.declared.targets.BigTargets.{BigTargets}
pub use Rattle.net_base.specs.declared.targets.Targets.{Targets}
pub use Rattle.net_base.specs.declared.timer.Deadline.{Deadline}
pub use Rattle.net_base.specs.declared.timer.Kind.{Kind}
pub use Rattle.net_base.specs.declared.timer.Kind.TheVariants.{Handshake, TimeWait, Reply2, Reply8, Reply10}
pub use Rattle.peer_book.specs.Book.{entry_of, entered, entered_by, new_peer, most_peers, has_address, with_peer, with_new, is_of, known_of, without_peer, same_temp, active_of, is_established, established_of, is_active, addresses_of}
pub use Rattle.peer_book.specs.declared.added.Added.{Added}
pub use Rattle.peer_book.specs.declared.added.Added.TheVariants.{Full, Present, New}
unfoldable pub use Rattle.pick_policy.specs.Least.{least_by}
pub use Rattle.pick_policy.specs.Scores.{pair_below, score_of, ranked_score_of, scores_below, rates_below}
pub use Rattle.pick_policy.specs.declared.rated.Rated.{Rated}
pub use Rattle.remote_watch.specs.Replies.{reply_bytes_of}
pub use Rattle.remote_watch.specs.Watch.{watched, seen_by_number, chain_sync_seen, block_fetch_seen, tx_submission_seen, keep_alive_seen, peer_sharing_seen}
pub use Rattle.remote_watch.specs.declared.reply.Reply.{Reply}
pub use Rattle.remote_watch.specs.declared.seen.Seen.{Seen}
pub use Rattle.root_groups.specs.Cleaned.{is_listed, members_of, cleaned, group_of}
unfoldable pub use Rattle.root_groups.specs.Cleaned.{first_places, cleaned_after}
pub use Rattle.root_groups.specs.RootAsk.{publics_of, may_ask, asked, awaits, found, failed}
pub use Rattle.share_rounds.specs.Rounds.{room_for, is_new, taken_after, fits_version, fresh_of, is_advertised, most_told, served_to}
pub use Rattle.std.specs.Coded.{×_prop, Unit-prop}
pub use Rattle.std.specs.List.{list_any, AllByRecursion, position, position_or_len, best_of, cons_option, flat_map}
pub use Rattle.std.specs.Option.{option_and_then, option_map, unwrap_or, option_or}
pub use Rattle.timer_queue.specs.Timers.{timer, earlier, least}
pub use Rattle.warm_messages.specs.First.{item_number_of}
pub use Rattle.warm_messages.specs.Reading.{share_of, alive_of}
pub use Rattle.warm_messages.specs.Writing.{written_alive, written_request}
pub use Rattle.warm_messages.specs.declared.alive.Alive.{Alive}
pub use Rattle.warm_messages.specs.declared.alive.Alive.TheVariants.{Done}
pub use Rattle.warm_messages.specs.declared.share.Share.{Share}
pub use Rattle.warm_messages.specs.declared.share.Share.TheVariants.{Request, Peers}
pub use Rattle.hs_decide.specs.declared.verdict.Verdict.TheVariants as verdict
pub use Rattle.hs_decide.specs.declared.verdict.Why.TheVariants as why
pub use Rattle.hs_message.specs.declared.message.Message.TheVariants as message
pub use Rattle.mux_segment.specs.declared.fault.CutFault.TheVariants as cut
pub use Rattle.net_base.specs.declared.action.CloseCause.TheVariants as cause
pub use Rattle.net_base.specs.declared.action.FaultKind.TheVariants as fault
pub use Rattle.net_base.specs.declared.action.PeerNote.TheVariants as note
pub use Rattle.net_base.specs.declared.timer.Kind.TheVariants as kind
pub use Rattle.remote_watch.specs.declared.reply.Reply.TheVariants as reply
pub use Rattle.warm_messages.specs.declared.alive.Alive.TheVariants as alive
pub use Rattle.warm_messages.specs.declared.share.Share.TheVariants as share
