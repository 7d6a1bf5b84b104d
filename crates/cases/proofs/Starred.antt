-- The starred cases of 01 hold, all of them: its parts are computed, and `starred` is the whole table.
use mathlib.Core.Path.{◌≡◌, refl, ap}
use mathlib.Core.List.{List, [], ◌∷◌, ◌++◌, map}
use Prim.Native.Nat.{ℕ}
use Rattle.answers.specs.Calls.{frames_of}
use Rattle.modules.specs.Modules.{filled, moved_at, present}
use Rattle.laws.specs.Put.{put, rows}
use Rattle.laws.specs.Each.{any_below}
use Rattle.laws.specs.Chunks.{chunks}
use Rattle.words.specs.Words.{fits, number_at}
use Rattle.crc.specs.Crc.{bit_step, bit_steps, byte_step, crc_from, crc_of}
use Rattle.steps.specs.Steps.{step_of, first_of, after_of}
use Rattle.framing.specs.Reading.{room_of, run_of}
use Rattle.rows.specs.Places.{input_at, relay_at, line_at, put_input, put_relay, put_line, on_rows, queue_of}
use Rattle.alarms.specs.Alarms.{alarm_state, alarm_above, alarm_at_or_above}
use Rattle.changes.specs.Answers.{on_input, on_relay}
use Rattle.changes.specs.Levels.{level_of}
use Rattle.edits.specs.Edits.{told, input_written}
use Rattle.changes.specs.Commands.{on_present}
use Rattle.blocks.specs.Blocks.{masked, blocked_row, block_of}
use Rattle.devices.specs.Devices.{device_of}
use Rattle.changes.specs.Entries.{write_input}
use Rattle.layouts.specs.Layouts.{onward, optionally, finished}
use Rattle.orders.specs.Entries.{entries_length}
use Rattle.orders.specs.Judges.{of_reach, in_range, if_sized, if_listed, sized_request, request_known, judge_request, on_channel, action_known}
use Rattle.orders.specs.Judges.{judge_command, judge_read, judge_write}
use Rattle.orders.specs.Orders.{request_of, command_of, read_of, write_of, order_of}
use Rattle.readings.specs.Readings as readings
use Rattle.writers.specs.Writers.{inputs_of, relays_of}
use Rattle.readings.specs.Readings.{input_row, monitor_reply, input_block, entry_of, ids_in, devices_reply}
use Rattle.writes.specs.Writes.{device_done, written_from}
use Rattle.connections.specs.Lines.{opened_line, connected, closed}
use Rattle.marks.specs.Marks.{marked_row, marked}
use Rattle.plain.specs.Events.{leveled, monitors_sent, collected}
use Rattle.serving.specs.Obeying.{monitor_set, obeyed, follows_it}
use Rattle.serving.specs.Serving.{served_content, served_message}
use Rattle.ring.specs.Ring.{row_after}
use Rattle.powerup.specs.PowerUp.{powered_up}
use Rattle.halves.specs.Halves.{half_at, put_half}
use Rattle.pieces.specs.Pieces.{bytes_call, halves_after, rooms_after}
use Rattle.cases.specs.Starred.{Row, count_top, told_again, block_cases, channel_edges, length_cases, write_cases, strict_cases, starred_cases}

-- every row of them does what 01 owes
pub record Holds (rs : List Row) : Type 0 where
  pub rows : map (λ (r : Row). r.does) rs ≡ map (λ (r : Row). r.owes) rs

map_both : (f : Row → List ℕ) (xs ys : List Row) → map f (xs ++ ys) ≡ map f xs ++ map f ys
map_both f [] ys = refl
map_both f (x ∷ xs) ys = ap (λ (l : List (List ℕ)). f x ∷ l) (map_both f xs ys)

pub both : {xs ys : List Row} → Holds xs → Holds ys → Holds (xs ++ ys)
both {xs} {ys} p q = record { rows = rw (map_both (λ (r : Row). r.does) xs ys, map_both (λ (r : Row). r.owes) xs ys, p.rows, q.rows) }

count-top : Holds count_top
unfolding count_top input_at put_input on_input told level_of device_of input_written write_input entries_length onward finished of_reach if_listed
    judge_write write_of device_done written_from marked_row leveled put fits number_at step_of first_of after_of room_of run_of line_at put_line
    on_rows order_of opened_line marked connected obeyed served_content served_message powered_up half_at put_half bytes_call halves_after rooms_after
    row_after queue_of follows_it frames_of filled
count-top = record { rows = refl }

told-again : Holds told_again
unfolding told_again input_at put_input on_input told level_of marked_row leveled monitors_sent collected line_at put_line on_rows opened_line marked connected
    powered_up put_half frames_of filled
told-again = record { rows = refl }

blocks : Holds block_cases
unfolding block_cases any_below relay_at masked blocked_row block_of onward finished of_reach if_sized action_known judge_command command_of relays_of
    marked_row monitors_sent collected put fits number_at step_of first_of after_of room_of run_of line_at put_line on_rows order_of opened_line
    marked connected obeyed served_content served_message powered_up half_at put_half bytes_call halves_after rooms_after row_after queue_of
    follows_it frames_of filled moved_at
blocks = record { rows = refl }

channels : Holds channel_edges
unfolding channel_edges relay_at put_relay on_relay onward finished of_reach in_range if_sized on_channel action_known judge_command command_of relays_of
    marked_row put fits number_at step_of first_of after_of room_of run_of line_at put_line on_rows order_of opened_line marked connected obeyed served_content
    served_message powered_up half_at put_half bytes_call halves_after rooms_after row_after queue_of follows_it frames_of filled on_present present moved_at
channels = record { rows = refl }

lengths : Holds length_cases
unfolding length_cases onward optionally finished of_reach sized_request request_known judge_request request_of monitor_set put fits number_at step_of first_of
    after_of room_of run_of line_at put_line on_rows order_of opened_line marked connected obeyed served_content served_message powered_up half_at put_half
    bytes_call halves_after rooms_after row_after queue_of follows_it frames_of filled
lengths = record { rows = refl }

writes : Holds write_cases
unfolding write_cases rows chunks input_at relay_at put_input alarm_state alarm_above alarm_at_or_above on_input device_of input_written write_input
    entries_length onward finished of_reach if_listed judge_read judge_write read_of write_of inputs_of relays_of input_row monitor_reply input_block
    readings.block_of entry_of ids_in devices_reply device_done written_from monitors_sent collected put fits number_at step_of first_of after_of
    room_of run_of line_at put_line on_rows order_of opened_line marked connected obeyed served_content served_message powered_up half_at put_half
    bytes_call halves_after rooms_after row_after queue_of follows_it frames_of filled
writes = record { rows = refl }

strict : Holds strict_cases
unfolding strict_cases bit_step bit_steps byte_step crc_from crc_of any_below relay_at masked blocked_row block_of onward finished of_reach if_sized
    action_known judge_command command_of relays_of marked_row put fits number_at step_of first_of after_of room_of run_of line_at put_line on_rows
    order_of opened_line marked connected closed obeyed served_content served_message powered_up half_at put_half bytes_call halves_after rooms_after
    row_after queue_of follows_it frames_of filled moved_at
strict = record { rows = refl }

pub starred : map (λ (r : Row). r.does) starred_cases ≡ map (λ (r : Row). r.owes) starred_cases
starred = (both (both (both (both (both (both count-top told-again) blocks) channels) lengths) writes) strict).rows
