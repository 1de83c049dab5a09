-- C1 to C10, computed from setup's own result, and the ids of the table.
-- Assumes nothing.
use mathlib.Core.Path.{refl}
use Rattle.model.specs.Devices.{devices_keep, accepted_devices}
use Rattle.model.specs.Peers.{ids_keep, accepted_ids, peer_sound, peer_apart, peers_below, peers_sound}
use Rattle.model.specs.Blocks.{block_keeps, end_before, blocks_keep, accepted_blocks, accepted_lists, with_list, setup_state, names, named_block}
use Rattle.model.specs.Calls.{refused, accepted, routed, data_for, heard, hears, receiving, in_range, allowed, effect_of, pages_of, refusal_of, drained, outcome, setup_refusal, set_up}
use Rattle.basics.specs.Choice.{pick, ◌and◌, ◌or◌, every, or_else, first_below, tabulate, joined}
use Rattle.claims.specs.Day.{Day, Ids, replies}
use Rattle.claims.specs.Demand3.{drained_by, numbered_by, after, runs, start, history, entries, reply_of}
use Rattle.model.specs.Journal.{fields_of, entry_of, stored, entry_at, entries_at, words_of, entries_in}
use Rattle.model.specs.Layout.{bit_of, block_in, removal_of, with_channel, with_service, with_configured, with_counts, with_removal, without_removal, with_number}
use Rattle.model.specs.Memory.{request_number, has_records, has_nothing, request_of, memory_reply, status_at, result_record, permanent_bytes, permanent_first, permanent_range, query_record, answering, answering_error, blocked, one_failed, one_configured, one_unchanged, configure_at, configure_one, configured_by, configure_reply, answering_configure, new_removal, beginning, querying, status_record, reporting, marked, cancelling, requested, answered_memory, rises}
use Rattle.model.specs.Messages.{services, route, ds_message, init_ack, init_nack, reg_req, reg_nack, unreg, unreg_ack, unreg_nack, ds_data, nack, whole_message, id_fits, payload_fits, well_formed, decoded_by_type, decoded, closing, noting, initiated, acknowledged, not_acknowledged, unregistered, offering, withdrawing, numbers_anew}
use Rattle.model.specs.Refusals.{refusal_in, action_refusal, drain_refusal}
use Rattle.model.specs.State.{is_ours, service_sound, handle_apart, room_at, removal_room, collected_sound, result_sound, results_sound, removal_sound, outstanding_sound, orders_sound, sound}
use Rattle.model.specs.Work.{failing_code, end_code, result_at, late_reply, ending, settled, collecting, pages_moved, collects, works_on, works_at, step_of}
use Rattle.wire.specs.BigEndian.{byte_at, number_at, bytes_of, written}
use Rattle.entry.specs.Word.{packed}

-- to unfold this is to unfold all that computes
opened : Unit {0}
unfolding block_keeps end_before blocks_keep accepted_blocks accepted_lists devices_keep accepted_devices ids_keep accepted_ids bit_of peer_sound peer_apart peers_below peers_sound with_list setup_state names named_block refused accepted routed data_for heard hears receiving in_range allowed effect_of pages_of refusal_of drained outcome setup_refusal set_up pick ◌and◌ ◌or◌ every or_else first_below tabulate joined replies drained_by numbered_by after runs start history entries reply_of fields_of entry_of stored entry_at entries_at words_of entries_in block_in removal_of with_channel with_service with_configured with_counts with_removal without_removal request_number has_records has_nothing request_of memory_reply status_at result_record permanent_bytes permanent_first permanent_range query_record answering answering_error blocked one_failed one_configured one_unchanged configure_at configure_one configured_by configure_reply answering_configure new_removal beginning querying status_record reporting marked cancelling requested answered_memory rises numbers_anew with_number services route ds_message init_ack init_nack reg_req reg_nack unreg unreg_ack unreg_nack ds_data nack whole_message id_fits payload_fits well_formed decoded_by_type decoded closing noting initiated acknowledged not_acknowledged unregistered offering withdrawing refusal_in action_refusal drain_refusal is_ours service_sound handle_apart room_at removal_room collected_sound result_sound results_sound removal_sound outstanding_sound orders_sound sound failing_code end_code result_at late_reply ending settled collecting pages_moved collects works_on works_at step_of byte_at number_at bytes_of written packed
opened = tt

pub day : Day
unfolding opened
day = record { setup = refl; c1-c7 = refl; init_ack = refl; reg_req = refl; c8 = refl; c9 = refl; c10 = refl }

pub ids : Ids
unfolding services
ids = record { dr-mem = refl; dr-vio = refl; domain-shutdown = refl; domain-panic = refl }
