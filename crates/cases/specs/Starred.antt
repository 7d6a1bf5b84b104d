-- The starred cases of 01, Edges, as one table: what the box does, through its calls, and what 01 owes.
use Rattle.std.specs.Prelude.{false, cond, List, [], ◌∷◌, ◌++◌, ℕ, ◌+◌, ◌*◌, length, get_or, replicate}
use Rattle.records.specs.declared.Relay.{Relay}
use Rattle.rows.specs.Places.{Board, input_at, line_at}
use Rattle.ring.specs.declared.Pulse.{Pulse}
use Rattle.ring.specs.Ring.{pulse_of}
use Rattle.writers.specs.Writers.{relays_of}
use Rattle.powerup.specs.declared.Settings.{Settings}
use Rattle.demand.specs.Demand.{Call, bytes, other}
use Rattle.register.specs.Box.{level, connect, close, collect, Held, served, effect_of, ends}

-- every input's first count setpoint is 100; no other setpoint and no alarm switch is set
abbrev pub settings : Settings
settings = record { inputs = replicate 8 (record { setpoint_one = 100; setpoint_two = 0; usage_setpoint = 0; alarm = false }); relays = replicate 8 0 }

-- a whole frame with the two bytes of its checksum on connection 0; the contents here are shorter than 256 bytes
abbrev pub sends_with : ℕ → ℕ → List ℕ → Call served
sends_with high low content = bytes 0 4096 (0x01 ∷ 0x00 ∷ length content ∷ high ∷ low ∷ content)

-- the same with 0xFFFF
abbrev pub sends : List ℕ → Call served
sends content = sends_with 0xFF 0xFF content

-- input 1 told its level, and Monitor collected on connection 0
abbrev pub told : ℕ → Call served
told v = other (level 1 v)

abbrev pub collects : Call served
collects = other (collect 0 4096)

-- 01, Messages, 10: a block, and a toggle
abbrev pub block : ℕ → ℕ → List ℕ
block mask state = 0x0A ∷ 0x0A ∷ mask ∷ state ∷ []

abbrev pub block_with : ℕ → ℕ → Call served
block_with mask state = sends (block mask state)

abbrev pub toggles : ℕ → Call served
toggles channel = sends (0x0A ∷ 0x03 ∷ 0x00 ∷ channel ∷ [])

-- 01, Messages, 21: input 1 is read
abbrev pub reads_input : Call served
reads_input = sends (0x15 ∷ 0x00 ∷ 0x01 ∷ 0 ∷ 0 ∷ 0 ∷ 0 ∷ 0 ∷ 0 ∷ 0x01 ∷ 0xFF ∷ [])

-- 01, Messages, 23: input 1 is written: flags, and the count's four bytes
abbrev pub writes_input : ℕ → List ℕ → Call served
writes_input flags count = sends ((0x17 ∷ 0x00 ∷ 0x01 ∷ 0 ∷ 0 ∷ 0 ∷ 0 ∷ 0 ∷ 0 ∷ 0x01 ∷ 0xFF ∷ 0x00 ∷ 0x05 ∷ flags ∷ []) ++ count)

-- the same with a count below 256, and nothing else of it
abbrev pub counts_to : ℕ → Call served
counts_to n = writes_input 2 (0 ∷ 0 ∷ 0 ∷ n ∷ [])

-- a row of 31 records
abbrev pub no_pulses : List Pulse
no_pulses = replicate 31 (pulse_of 0 0 0)

-- the box after power-up, connection 0 opened at rank 2, not strict, and these calls
abbrev pub after : List (Call served) → Held
after calls = ends settings (replicate 4 (replicate 3 0)) (replicate 4096 0) no_pulses (other (connect 0 2 0) ∷ calls)

-- 02, M-103, 2: connection 0 is closed and opened again, strict or not
abbrev pub reopens : ℕ → List (Call served)
reopens strict = other (close 0) ∷ other (connect 0 2 strict) ∷ []

-- what is asked of it: input 1's count, the relays (lowest bit channel 1), and whether Monitor is due on connection 0 (1) or not (0)
abbrev pub count : List (Call served) → ℕ
count calls = (input_at 1 (after calls).board).count

abbrev pub bits : List Relay → ℕ
bits [] = 0
bits (r ∷ rs) = cond r.closed 1 0 + 2 * bits rs

abbrev pub relay_bits : Board → ℕ
relay_bits b = bits (relays_of b)

abbrev pub relays : List (Call served) → ℕ
relays calls = relay_bits (after calls).board

abbrev pub due : List (Call served) → ℕ
due calls = cond (line_at 0 (after calls).board).due 1 0

-- the answer number of one call more, and byte i of its reply
abbrev pub number : List (Call served) → Call served → ℕ
number calls k = (effect_of (after calls) k).did.answer

abbrev pub reply_byte : List (Call served) → Call served → ℕ → ℕ
reply_byte calls k i = get_or (effect_of (after calls) k).did.reply i 0

-- a row of the table: what the box does, and what 01 says
pub record Row : Type 0 where
  pub does : List ℕ
  pub owes : List ℕ

abbrev pub row : List ℕ → List ℕ → Row
row does owes = record { does = does; owes = owes }

-- THE STARRED CASES, in 01's order, whose last are two since 02, M-101; then those of strict connections
-- 01, Edges, 2: a rise reaches the largest count, and stays there
unfoldable pub count_top : List Row
count_top =
    row (count (writes_input 2 (0xFF ∷ 0xFF ∷ 0xFF ∷ 0xFE ∷ []) ∷ []) ∷ []) (4294967294 ∷ []) ∷
    row (count (writes_input 2 (0xFF ∷ 0xFF ∷ 0xFF ∷ 0xFE ∷ []) ∷ told 1 ∷ []) ∷ []) (4294967295 ∷ []) ∷
    row (count (writes_input 2 (0xFF ∷ 0xFF ∷ 0xFF ∷ 0xFE ∷ []) ∷ told 1 ∷ told 0 ∷ told 1 ∷ []) ∷ []) (4294967295 ∷ []) ∷ []

-- 01, Edges, 3: an input that is on, told on: neither count nor mark changes; what was not due stays so, and what was due stays so
unfoldable pub told_again : List Row
told_again =
    row (count (told 1 ∷ collects ∷ []) ∷ due (told 1 ∷ collects ∷ []) ∷ []) (1 ∷ 0 ∷ []) ∷
    row (number (told 1 ∷ collects ∷ []) (told 1) ∷ count (told 1 ∷ collects ∷ told 1 ∷ []) ∷ due (told 1 ∷ collects ∷ told 1 ∷ []) ∷ []) (1 ∷ 1 ∷ 0 ∷ []) ∷
    row (count (told 1 ∷ told 1 ∷ []) ∷ due (told 1 ∷ told 1 ∷ []) ∷ []) (1 ∷ 1 ∷ []) ∷ []

-- 01, Edges, 4: a block over closed relays 1 and 3: of relays 2 and 3 it closes the one and opens the other
abbrev pub masked_block : List Row
masked_block =
    row (relays (block_with 5 5 ∷ []) ∷ relays (block_with 5 5 ∷ block_with 6 2 ∷ []) ∷ []) (5 ∷ 3 ∷ []) ∷ []

-- 01, Edges, 5: mask 0 answers 1 and marks nothing, whatever the state byte is
abbrev pub mask_zero : List Row
mask_zero =
    row (number (collects ∷ []) (block_with 0 255) ∷ due (collects ∷ block_with 0 255 ∷ []) ∷ relays (block_with 0 255 ∷ []) ∷ []) (1 ∷ 0 ∷ 0 ∷ []) ∷ []

-- 01, Edges, 6: channel 8 toggles; channels 9 and 0 are refused with 11
unfoldable pub channel_edges : List Row
channel_edges =
    row (number [] (toggles 8) ∷ relays (toggles 8 ∷ []) ∷ relays (toggles 8 ∷ toggles 8 ∷ []) ∷ []) (1 ∷ 128 ∷ 0 ∷ []) ∷
    row (number [] (toggles 9) ∷ relays (toggles 9 ∷ []) ∷ []) (11 ∷ 0 ∷ []) ∷
    row (number [] (toggles 0) ∷ relays (toggles 0 ∷ []) ∷ []) (11 ∷ 0 ∷ []) ∷ []

-- 01, Edges, 7: no content, unchecked, is refused with 8
abbrev pub empty_content : List Row
empty_content =
    row (number [] (sends []) ∷ []) (8 ∷ []) ∷ []

-- 01, Edges, 8: request 4 with its interval, 7 bytes, is served; 02, M-105, 3: 6 bytes are refused with 20
abbrev pub request_lengths : List Row
request_lengths =
    row (number [] (sends (0x05 ∷ 0x00 ∷ 0x04 ∷ 0 ∷ 0 ∷ 0 ∷ 1 ∷ [])) ∷ []) (1 ∷ []) ∷
    row (number [] (sends (0x05 ∷ 0x00 ∷ 0x04 ∷ 0 ∷ 0 ∷ 1 ∷ [])) ∷ []) (20 ∷ []) ∷ []

-- 01, Edges, 9: flags 1 and 2 together leave the written count
abbrev pub reset_and_write : List Row
reset_and_write =
    row (number [] (writes_input 3 (0 ∷ 0 ∷ 0 ∷ 7 ∷ [])) ∷ count (writes_input 3 (0 ∷ 0 ∷ 0 ∷ 7 ∷ []) ∷ []) ∷ []) (1 ∷ 7 ∷ []) ∷ []

-- 01, Edges, 10, by 02, M-101, 4: in the Monitor message, whose byte 28 is the first count alarm, no alarm at 100, an alarm at 101
abbrev pub setpoint_in_monitor : List Row
setpoint_in_monitor =
    row (reply_byte (counts_to 100 ∷ []) collects 28 ∷ []) (0 ∷ []) ∷
    row (reply_byte (counts_to 101 ∷ []) collects 28 ∷ []) (1 ∷ []) ∷ []

-- 01, Edges, 10, by 02, M-101, 4: in the read block, whose reply has the first count alarm as its byte 24, no alarm at 99, an alarm at 100
abbrev pub setpoint_in_block : List Row
setpoint_in_block =
    row (reply_byte (counts_to 99 ∷ []) reads_input 24 ∷ []) (0 ∷ []) ∷
    row (reply_byte (counts_to 100 ∷ []) reads_input 24 ∷ []) (1 ∷ []) ∷ []

-- 02, M-103, 2 and 3: relays 1 and 3 are to be closed with 0xFFFF, which is not the content's checksum: a strict connection refuses it with 7
-- and closes neither, whatever byte but 0 made it strict; one that is not strict serves it, also where it was strict before it was closed
abbrev pub unchecked : List Row
unchecked =
    row (number (reopens 1) (block_with 5 5) ∷ relays (reopens 1 ++ block_with 5 5 ∷ []) ∷ []) (7 ∷ 0 ∷ []) ∷
    row (number (reopens 255) (block_with 5 5) ∷ relays (reopens 255 ++ block_with 5 5 ∷ []) ∷ []) (7 ∷ 0 ∷ []) ∷
    row (number (reopens 0) (block_with 5 5) ∷ relays (reopens 0 ++ block_with 5 5 ∷ []) ∷ []) (1 ∷ 5 ∷ []) ∷
    row (number (reopens 1 ++ reopens 0) (block_with 5 5) ∷ relays (reopens 1 ++ reopens 0 ++ block_with 5 5 ∷ []) ∷ []) (1 ∷ 5 ∷ []) ∷ []

-- 02, M-103, 3: a strict connection serves the same content with its true checksum, 0x89E0, and one whose true checksum is 0xFFFF; 7 comes
-- before 8 there too: of an empty content, whose true checksum is 0, 0xFFFF is refused with 7
abbrev pub checked : List Row
checked =
    row (number (reopens 1) (sends_with 0x89 0xE0 (block 5 5)) ∷ relays (reopens 1 ++ sends_with 0x89 0xE0 (block 5 5) ∷ []) ∷ []) (1 ∷ 5 ∷ []) ∷
    row (number (reopens 1) (block_with 0xD1 0xB2) ∷ relays (reopens 1 ++ block_with 0xD1 0xB2 ∷ []) ∷ []) (1 ∷ 144 ∷ []) ∷
    row (number (reopens 1) (sends []) ∷ []) (7 ∷ []) ∷ []

-- all of them; what is named here is computed by itself
unfoldable pub block_cases : List Row
block_cases = masked_block ++ mask_zero

unfoldable pub length_cases : List Row
length_cases = empty_content ++ request_lengths

unfoldable pub write_cases : List Row
write_cases = reset_and_write ++ setpoint_in_monitor ++ setpoint_in_block

unfoldable pub strict_cases : List Row
strict_cases = unchecked ++ checked

abbrev pub starred_cases : List Row
starred_cases = count_top ++ told_again ++ block_cases ++ channel_edges ++ length_cases ++ write_cases ++ strict_cases
