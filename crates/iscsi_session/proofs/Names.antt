-- The names that the crate's proofs need of other crates, and of its own definitions.
pub use Rattle.iscsi_commands.specs.Commands.{AreTagsApart}
pub use Rattle.iscsi_commands.specs.declared.live.Live.{Live}
pub use Rattle.iscsi_commands.specs.declared.live.Located.{Located}
pub use Rattle.iscsi_connections.specs.Connected.{Connected}
pub use Rattle.iscsi_rules.proofs.general.BoolLemmas.{alike, alike_same, and_both, and_comm, and_false, and_first, and_parts, and_second, and_true, not_flip, not_true, or_comm, or_false, or_first, or_none, or_second}
pub use Rattle.iscsi_rules.proofs.general.CountLemmas.{count-cons, count-filter, count_places, count_replaced, count_set, count_shift, fewer, fewer_left, none_counted}
pub use Rattle.iscsi_rules.proofs.general.ListLemmas.{all_of_filter, any_filter, any_flat_map, any_in_range, any_same, count_by-map, count_by-push, fewer_counted, filter-flat_map, filter-map, filter-shorter, filter-swap, filter_every, filter_here, filtered_among, find-found, find-passes, flat_map_in_range, is_known-cids, is_none, list_all-filter, list_all-same, list_any-map, map-flat_map, map-map, map_all, none_out, range_step}
pub use Rattle.iscsi_rules.proofs.general.Missing.{expected_gone, expected_is, expected_low, expected_past}
pub use Rattle.iscsi_rules.proofs.general.NumberLemmas.{last_number, later_event, none_above, one_unit, position_eq, position_lt, wire-lift, wire-next, within_window}
pub use Rattle.iscsi_rules.proofs.general.PlaceLemmas.{all_none, all_set, all_shift, found_nowhere, found_there, has_first, last_none, nothing_at, position-cons, some_within, written}
pub use Rattle.iscsi_rules.proofs.items.ClosingItems.{ClosesNone, all_open, closed-same, closes-more, closing_marks, emptied_any, emptied_sends, emptied_shown, emptied_waits, is_nil, last_is, left_any, left_sends, left_shown, left_waits, nil_is, quiet-closing, untouched-closing, untouched-emptied}
pub use Rattle.iscsi_rules.proofs.items.CommandItems.{EntersOne, LeavesSome, among_passing, any_in_units, are_all_in, completion_item, enters_only, first_passes, first_passing, leaves_only, leaving-calm, leaving-closes, leaving-enters, leaving-sends, leaving-shown, leaving-tickets, live-left, live_in-left, live_in-left_elsewhere, none_passing, quiet-completion, quiet-leaving, ticket_alone, unfinished-untouched, untouched-admits}
pub use Rattle.iscsi_rules.proofs.items.DeedTable.{Befits, befits_deed, befits_function, named_below, never_waits, through_function}
pub use Rattle.iscsi_rules.proofs.items.EmptyingMarks.{EmptiesOne, EmptiesThese, SameNumbers, VoidsOne, admitted-empties, admitted-voids, emptied-empties, empties-one, empties-these, held-gone, held-other, held-voids, held_from, held_from-none, held_from-parts, is_number_of, joined-same, quiet_enters, quiet_executes, quiet_none, quiet_sends, received-empties, received-voids, request_at-empties, request_at-voids, voids-one}
pub use Rattle.iscsi_rules.proofs.items.EnabledItems.{EnabledSoFar-left, EnabledSoFar-more, EnabledSoFar-none, EnabledSoFar-untouched, enabled_once, exact_now, newly-one, same_enabled, shown-before, shown-item, was_before}
pub use Rattle.iscsi_rules.proofs.items.ReceivedItems.{function_receives_none, functions_receive_none, ignored_receives, immediate_receives_one, is_numbered_arrival, may_immediate, no_abort_task, turn_receives_none}
pub use Rattle.iscsi_rules.proofs.items.WaitingItems.{first_function, waits_itself}
pub use Rattle.iscsi_rules.proofs.promises.AbortTheorem.{aborts_hold_in}
pub use Rattle.iscsi_rules.proofs.promises.AnswerTheorem.{answers_once_in}
pub use Rattle.iscsi_rules.proofs.promises.CloseTheorem.{closes_hold_in}
pub use Rattle.iscsi_rules.proofs.promises.LifeTheorem.{starts_once}
pub use Rattle.iscsi_rules.proofs.promises.MeaningTheorem.{means_what_it_says}
pub use Rattle.iscsi_rules.proofs.promises.MomentLemmas.{enables, log_effects, rule_means}
pub use Rattle.iscsi_rules.proofs.promises.NumberingLemmas.{counts_replies}
pub use Rattle.iscsi_rules.proofs.promises.OrderRuns.{keeps_order}
pub use Rattle.iscsi_rules.proofs.traces.ApartLemmas.{apart-filter, apart-push, eq_sym, unamong-filter}
pub use Rattle.iscsi_rules.proofs.traces.DeliveryLemmas.{IsQuiet, admitted-quiet, delivered-quiet, executed_below-more, executed_below-quiet, held-quiet, log_delivers, quiet-ignored, received-quiet, same_range}
pub use Rattle.iscsi_rules.proofs.traces.FlowItems.{FlowsThrough-push, agenda-halves, belong_more, effects_of-append, exp_stays, same_exp, turns, turns-more}
pub use Rattle.iscsi_rules.proofs.traces.HeldLemmas.{admitted-cases, admitted-number, admitted_of_held, held-admits, held-delivered, held-here, held-number, held-turned, held_command-below, held_command-held, held_command-none, held_received, held_unemptied, is_sought, none_below, received-admits, request_at-admits, request_at-turned, unreceived_unheld}
pub use Rattle.iscsi_rules.proofs.traces.NewlyLemmas.{Untouched, all_here, both_all, filter-none, filter-twice, filter_all, is_here, live-untouched, live_in-untouched, never_free, new_in, new_in-more, new_in-none, newly-untouched, was_free-stays}
pub use Rattle.iscsi_rules.proofs.traces.RunLemmas.{run_of-push, trace_of-push}
pub use Rattle.iscsi_rules.proofs.traces.SetLemmas.{gone_each, none_covered, none_filtered, none_found, one_gone, rising, set_opened, some_covered, tickets, tickets-given_in, tickets-moment, ungiven_given}
pub use Rattle.iscsi_rules.proofs.traces.TraceLemmas.{after_items-append, filter-same, filter-true, live-enters, weaker}
pub use Rattle.iscsi_rules.specs.declared.deed.Answer.{Answer}
pub use Rattle.iscsi_rules.specs.declared.deed.Answer.TheVariants.{Reject as RejectAnswer, Respond}
pub use Rattle.iscsi_rules.specs.declared.deed.Deed.{Deed}
pub use Rattle.iscsi_rules.specs.declared.deed.Deed.TheVariants.{Abort, AbortAll, AbortEarlier, CloseConn, CloseSession, Empty, Enter, Nothing, Void, Wait}
pub use Rattle.iscsi_rules.specs.declared.effect.Effect.{Effect}
pub use Rattle.iscsi_rules.specs.declared.effect.Effect.TheVariants.{Deliver, Enable, Ignore, Immediate, Leave, Send}
pub use Rattle.iscsi_rules.specs.declared.effect.Numbers.{Numbers}
pub use Rattle.iscsi_rules.specs.declared.effect.Why.{Why}
pub use Rattle.iscsi_rules.specs.declared.effect.Why.TheVariants.{Closed, Data, Duplicate, Outside, Stale}
pub use Rattle.iscsi_rules.specs.declared.event.Event.{Event}
pub use Rattle.iscsi_rules.specs.declared.event.Event.TheVariants.{Done}
pub use Rattle.iscsi_rules.specs.declared.kind.Kind.TheVariants.{Executes as ExecutesKind, PassedOver, Unknown}
pub use Rattle.iscsi_rules.specs.promises.Closes.{ClosesHoldIn}
pub use Rattle.iscsi_rules.specs.promises.Enabling.{EnabledSoFar, EnablesByTheRule}
pub use Rattle.iscsi_rules.specs.promises.Executed.{delivered, delivers, executed_below, request_at}
pub use Rattle.iscsi_rules.specs.promises.Flow.{Flows, FlowsThrough, HasOneMore}
pub use Rattle.iscsi_rules.specs.promises.Promises.{KeepsPromises}
pub use Rattle.iscsi_rules.specs.rules.Agenda.{arrival, arrival_as, arrival_of, arrival_open, belongs, command_of, items_of, kind_of, numbered, with_turns}
pub use Rattle.iscsi_rules.specs.rules.Deeds.{Facts, command_deed, deed_marks, deed_of, facts_of, function_deed, if_found, of_unit}
pub use Rattle.iscsi_rules.specs.rules.Execution.{completion, exp_of, ignored, max_of, next_command, rejected, reply_of, reply_on, sense_of_status, unfinished, unit_named}
pub use Rattle.iscsi_rules.specs.rules.Items.{agenda, execution, function_item, functions_at, immediate_item, item_of, turn_at, waiting_item}
pub use Rattle.iscsi_rules.specs.rules.Logout.{all_held, close_conn, end_session, is_last_open, is_open, live_of_units, parting, taken_out}
pub use Rattle.iscsi_rules.specs.rules.Management.{answer, held_command, is_before, is_to, live_with_tag, may_wait, refusal, waiting_on}
pub use Rattle.iscsi_rules.specs.rules.Run.{after_event, effects_of, effects_of_item, effects_of_mark, newly_enabled, next_entry, numbers_of, run_of, stat_sn_of, trace_of}
pub use Rattle.iscsi_rules.specs.rules.Settings.{Setting, are_distinct, is_known}
pub use Rattle.iscsi_rules.specs.rules.Trace.{Admits, Arrival, ClosesConn, ClosesSession, Command, Delivers, Empties, Enters, Executes, Ignores, Leaves, Mark, Sends, Trace, Voids, Waits, admits_at, admitted, after_items, are_apart, closes_conn, closes_session, contains, delivers_number, entered, enters, first_of, has, held, held_among, is_among, is_closed, is_delivered, is_emptied, is_ended, is_received, leaves_ticket, live, live_in, number_received, received, sent_on, shown, waiting, waiting_by, waiting_through, was_free}
pub use Rattle.iscsi_session.specs.contracts.session.Session.{the_view}
pub use Rattle.iscsi_session.specs.declared.fault.SessionFault.{SessionFault}
pub use Rattle.iscsi_session.specs.declared.fault.SessionFault.TheVariants.{Exhausted, NoMemory, UnknownConnection}
pub use Rattle.iscsi_session.specs.declared.session.waiting.Waiting.{Waiting}
pub use Rattle.iscsi_session.specs.private.Deeds.{Fits, IsReady, arrival_by, carried, comes_next, deed_by, executed, facts_by, function_taken, immediate_taken, missing_by, most_emptied, next_position, next_waiting, position_by, refusal_by, tagged_in, turn_taken, waits_by}
pub use Rattle.iscsi_session.specs.private.Invariant.{AreCommandsSound, AreFunctionsSound, IsSessionSound, IsWindowSound}
pub use Rattle.iscsi_session.specs.private.Standing.{Agrees, AreRoomy, CommandsAgree, Core, IsRegularRequest, Lasting, Match, RepliesAgree, SetsAgree, Settled, StandsFor, WaitingAgrees, WindowAgrees, are_ascending, are_known, are_within, arrival_waiting, held_of, is_held, is_place_known, is_regular, kept, member_of, open_of, place_of, set_of, stat_sn_on, task_of, tickets_in, tickets_of}
pub use Rattle.iscsi_session.specs.private.Steps.{Appends, AreCounted, Continues, Handles, KeepsPace, Runs, Step, Takes, after_effect, all_commands_left, all_emptied, all_given, all_told, and_then, as_given, comes_on, command_entered, commands_left, completed, count_reply, counted_on, cover_of, covered_tickets, covers_by, covers_ticket, emptied_from, emptied_place, enable_effect, enable_effects, enabled_in, enabled_of, event_by, find_ticket, finished, finished_by, has_covered, immediate_in, is_among_open, is_clear_below, is_gone, is_immediate_on, is_numbered, leave_each, left_answered, logged_out, new_live, new_task, number_by, numbers_by, owed, replied, session_closes, set_at, set_staying, started, staying, still_open, unchanged, ungiven, ungiven_in, waiting_in, with_offered, without_ticket, without_tickets}
pub use Rattle.iscsi_session.specs.promises.Bounds.{effect_bound_of, held_count}
pub use Rattle.iscsi_session.specs.promises.Arrivals.{arrived}
pub use Rattle.iscsi_session.specs.promises.Refusals.{RefusesAs, RunRefusesAs, first_refusal, refusal_of, refusal_of_options}
pub use Rattle.iscsi_session.specs.promises.Settings.{setting_of}
pub use Rattle.iscsi_slots.proofs.SortedLemmas.{find_nowhere, remove_is}
pub use Rattle.iscsi_slots.specs.Queued.{Queued, queued}
pub use Rattle.iscsi_tasks.specs.Sets.{Members, after_moment, entered_to, given_by, given_in, is_covered, is_enabled_in, is_free_among, is_new, left_by, looked_at, next_in, opened, opened as opened_set, tasks_in, uncovered, with_ticket}
pub use Rattle.iscsi_tasks.specs.declared.cover.Cover.TheVariants.{All as AllOfThem, Below}
pub use Rattle.iscsi_tasks.specs.declared.member.Member.{Member}
pub use Rattle.iscsi_tasks.specs.declared.task.Task.{Task}
pub use Rattle.iscsi_window.specs.Windows.{Arrived, HasRoom, IsInside, advanced, advanced_if, at_place, emptied, emptied_if, find_held, held_at, holds_command, holds_from, is_asked, is_next, is_received_at, is_unit, number_expected, number_shown, offer_at, offer_to, offered_in, place_in, received_at, room_of, turned_on, voided, with_place, with_unfinished}
pub use Rattle.iscsi_window.specs.declared.answer.Offer.{Offer}
pub use Rattle.iscsi_window.specs.declared.answer.Offer.TheVariants.{Held, Duplicate as Known, Outside as OutsideWindow}
pub use Rattle.iscsi_window.specs.declared.answer.Place.{Place}
pub use Rattle.iscsi_window.specs.declared.answer.Place.TheVariants.{Inside, Outside as NoPlace}
pub use Rattle.iscsi_window.specs.declared.held_request.HeldRequest.{HeldRequest}
pub use Rattle.iscsi_wire.specs.Codes.{opcode_named}
pub use Rattle.iscsi_wire.specs.Fields.{cid, cmd_sn, connection_of, function, is_immediate, itt, lun, opcode, ref_cmd_sn, request_of, rtt, unit_of}
pub use Rattle.iscsi_wire.specs.Serial.{lift, number_of_first, wire}
pub use Rattle.iscsi_wire.specs.declared.opcode.Opcode.{Opcode}
pub use Rattle.iscsi_wire.specs.declared.opcode.Opcode.TheVariants.{DataOut, NopOut, ScsiCommand, Snack, TaskManagement, Text}
pub use Rattle.iscsi_wire.specs.declared.reply.Reply.{Reply}
pub use Rattle.iscsi_wire.specs.declared.reply.Reply.TheVariants.{Logout, Scsi, Task as TaskReply}
pub use Rattle.iscsi_wire.specs.declared.request.Request.{Request}
pub use Rattle.std.proofs.Common.{All, Bool, Err, List, None, Ok, Option, Some, [], add-one, ap, append_assoc, arith, cond, count_by, drop, eq-eqb, false, filter, find, get_or, inl, inr, is_some, length, length-append, length-drop, length-set, length-take, map, nat_le, nat_lt, not, option_map, pos, position, refl, remove, replicate, rules, set, slice_index_or, subst, suc, sym, take, to_z, true, vec_capacity, w64, zero, ℕ, ℤ, ⊎_elim, ◌&&◌, ◌*◌, ◌++◌, ◌+◌, ◌-ℤ◌, ◌-◌, ◌<◌, ◌==◌, ◌^◌, ◌||◌, ◌∙◌, ◌∷◌, ◌≡◌, ◌≢◌, ◌≤◌, ◌⊎◌}
pub use Rattle.std.proofs.Math.ListN.{get_or-map}
pub use Rattle.std.proofs.Math.Nat.{mul-suc}
pub use Rattle.std.proofs.lemmas.Bool.{cases_Bool, cases_eq, cases_lt, cond_both, eqb-true, false≢true, leb-false, leb-true, lt-ltb, ltb-false, ltb-true, ne_eqb}
pub use Rattle.std.proofs.lemmas.Bool.Decides.{nat_tests}
pub use Rattle.std.proofs.lemmas.Fn.{filter_same}
pub use Rattle.std.proofs.lemmas.Grind.{common_steps, elements, get_or-set_at}
pub use Rattle.std.proofs.lemmas.Int.{ints, to_z-of_z, to_z_pos}
pub use Rattle.std.proofs.lemmas.List.{append-nil, at_drop_more, drop_more, get_or-set_other, get_or-set_same, get_or-take, get_or_default, length-map, length-replicate, length-take-le, length_push, map-append, set-get_or, set-set, length-replicate as so_many, take_all, take_more}
pub use Rattle.std.proofs.lemmas.List.Edits.{get_or-remove_above, get_or-remove_below, length-remove}
pub use Rattle.std.proofs.lemmas.List.Elements.{All-head, All-tail, All-weaker, filter-append, filter_map-append}
pub use Rattle.std.proofs.lemmas.List.Filters.{length-filter_both}
pub use Rattle.std.proofs.lemmas.List.Folds.{list_all-append, list_all-map, list_any-append, list_any_more, list_any_none}
pub use Rattle.std.proofs.lemmas.List.Kept.{AllPairs-filter}
pub use Rattle.std.proofs.lemmas.List.Quantifiers.{all_pairs_remove, position-Some}
pub use Rattle.std.proofs.lemmas.List.Sums.{AllPass-from_list_all, count_by-le-length, length-filter, sum_by-cons}
pub use Rattle.std.proofs.lemmas.Result.{err_from_is_err_and}
pub use Rattle.std.specs.List.{AllPairs, filter_map, flat_map, list_all, list_any, range_with_len}
pub use Rattle.std.specs.Option.{option_flatten}
pub use Rattle.std.specs.Prelude.{IsSome, OnOk, Result, is_err}
pub use Rattle.std.specs.VecDeque.{deque_capacity}
