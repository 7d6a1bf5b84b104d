-- The contents that do not have their layout are answered as 02, M-105, owes, all of them: the table is computed.
use mathlib.Core.Path.{◌≡◌, refl}
use mathlib.Core.List.{map}
use Rattle.changes.specs.Commands.{on_present}
use Rattle.answers.specs.Calls.{frames_of}
use Rattle.modules.specs.Modules.{filled, moved_at, present}
use Rattle.laws.specs.Put.{put}
use Rattle.words.specs.Words.{fits, number_at}
use Rattle.steps.specs.Steps.{step_of, first_of, after_of}
use Rattle.framing.specs.Reading.{room_of, run_of}
use Rattle.rows.specs.Places.{relay_at, line_at, put_relay, put_line, on_rows, queue_of}
use Rattle.changes.specs.Answers.{on_relay}
use Rattle.layouts.specs.Layouts.{onward, optionally, finished}
use Rattle.orders.specs.Entries.{entries_length}
use Rattle.orders.specs.Judges.{of_reach, in_range, if_sized, if_listed, sized_request, request_known, judge_request, on_channel, action_known}
use Rattle.orders.specs.Judges.{judge_set_clock, if_lasting, judge_pulse, judge_command, judge_read, judge_write, judge_enumerate}
use Rattle.orders.specs.Orders.{request_of, set_clock_of, enumerate_of, command_of, read_of, write_of, order_of}
use Rattle.connections.specs.Lines.{opened_line, connected}
use Rattle.marks.specs.Marks.{marked}
use Rattle.serving.specs.Obeying.{obeyed, follows_it}
use Rattle.serving.specs.Serving.{served_content, served_message}
use Rattle.ring.specs.Ring.{row_after}
use Rattle.powerup.specs.PowerUp.{powered_up}
use Rattle.halves.specs.Halves.{half_at, put_half}
use Rattle.pieces.specs.Pieces.{bytes_call, halves_after, rooms_after}
use Rattle.cases.specs.Starred.{Row}
use Rattle.broken.specs.Broken.{field_cases, list_cases, broken_cases}
use Rattle.cases.proofs.Starred.{Holds, both}

field-layouts : Holds field_cases
unfolding field_cases relay_at put_relay on_relay onward optionally finished of_reach in_range if_sized sized_request request_known judge_request
    judge_set_clock on_channel if_lasting judge_pulse action_known judge_command judge_enumerate request_of set_clock_of command_of enumerate_of put
    fits number_at step_of first_of after_of room_of run_of line_at put_line on_rows order_of opened_line marked connected obeyed served_content
    served_message powered_up half_at put_half bytes_call halves_after rooms_after row_after queue_of follows_it frames_of filled on_present present
    moved_at
field-layouts = record { rows = refl }

list-layouts : Holds list_cases
unfolding list_cases entries_length onward finished of_reach if_listed judge_read judge_write read_of write_of put fits number_at step_of first_of
    after_of room_of run_of line_at put_line on_rows order_of opened_line marked connected obeyed served_content served_message powered_up half_at
    put_half bytes_call halves_after rooms_after row_after queue_of follows_it frames_of filled
list-layouts = record { rows = refl }

pub broken : map (λ (r : Row). r.does) broken_cases ≡ map (λ (r : Row). r.owes) broken_cases
broken = (both field-layouts list-layouts).rows
