-- 01, Frame: the longest reply has 3,437 bytes.
--     frame-reply        no reply to a content that is judged has more, the two frames of request 1 neither (02, M-102, 7)
--     longest-reached    at every board, whoever may read is sent so many when he asks for an input's ID as often as a content can hold it
use mathlib.Core.Path.{◌≡◌, refl, ap, ◌∙◌}
use mathlib.Core.List.{List, [], ◌∷◌, ◌++◌, map, append-nil}
use Prim.Native.Nat.{ℕ, zero, suc, ◌+◌, ◌*◌, ◌≤◌}
use native.Mathlib.Nat.{mul-suc}
use native.Mathlib.Omega.{arith}
use borrow.Author.Tests.{le-ltb}
use lib.ListN.{length, length-append}
use Rattle.laws.specs.Put.{rows}
use Rattle.laws.specs.Chunks.{chunks}
use Rattle.words.specs.Words.{value_of, fits, number_at}
use Rattle.crc.specs.Crc.{crc_of}
use Rattle.steps.specs.Cut.{frame}
use Rattle.frames.proofs.Sealing.{true-sum}
use Rattle.rows.specs.Places.{Board, line_at}
use Rattle.devices.specs.Devices.{device_of}
use Rattle.modules.specs.Modules.{has_module}
use Rattle.std.specs.Prelude.{Result, Ok, Err}
use Rattle.refusals.specs.declared.Refusal.{Refusal}
use Rattle.orders.specs.declared.Order.{Order}
use Rattle.orders.specs.declared.Order.TheVariants.{Read}
use Rattle.layouts.specs.Layouts.{onward, finished}
use Rattle.orders.specs.Judges.{of_reach, if_listed, judge_read}
use Rattle.orders.specs.Orders.{read_of, order_of}
use Rattle.readings.specs.Readings.{input_block, block_of, entry_of, ids_in, devices_reply, monitor_reply}
use Rattle.external.specs.External.{external_reply}
use Rattle.readings.proofs.Lengths.{length-monitor}
use Rattle.connections.specs.Lines.{is_strict}
use Rattle.answers.specs.Calls.{framed, frames_of}
use Rattle.plain.specs.Events.{if_wanted}
use Rattle.plain.proofs.Frames.{external-few, no_bytes}
use Rattle.serving.specs.Obeying.{obeyed, follows_it}
use Rattle.serving.specs.Serving.{served_order, served_content, served_message}
use Rattle.serving.proofs.Lengths.{reply-short}
use Rattle.serving.proofs.Following.{monitor-or}
use Rattle.register.proofs.Cases.{frame-cases}

-- a frame has five bytes more than its content
pub framed-length : (xs : List ℕ) → length (framed xs) ≤ length xs + 5
framed-length [] = omega arith
framed-length (x ∷ xs) = omega arith

-- 02, M-102, 7: of two messages one behind the other, the Monitor message and the External one, the frames have 102 and 24 bytes at most
followed-length : (c : ℕ) (s : List ℕ) (p : Board) → length s ≤ 1024 → (order : Order)
    → length (framed (obeyed c s order p).reply ++ frames_of (if_wanted (follows_it order (has_module p)) (external_reply p))) ≤ 3437
unfolding obeyed follows_it
followed-length c s p h =
    monitor-or (λ order. length (framed (obeyed c s order p).reply ++ frames_of (if_wanted (follows_it order (has_module p)) (external_reply p))) ≤ 3437)
    (omega (
      arith,
      length-append (framed (monitor_reply p)) (frames_of (if_wanted (has_module p) (external_reply p))),
      framed-length (monitor_reply p),
      length-monitor p,
      external-few (has_module p) p,
    ))
    (λ order none. rw (none (has_module p)) (omega (
      arith,
      length-append (framed (obeyed c s order p).reply) (frames_of []),
      no_frames,
      framed-length (obeyed c s order p).reply,
      reply-short c s order p h,
    )))
  where
    no_frames : length (frames_of []) ≡ 0
    no_frames = no_bytes

order-length : (c : ℕ) (s : List ℕ) (p : Board) → length s ≤ 1024 → (o : Result Order Refusal) → length (served_order c s o p).reply ≤ 3437
order-length c s p h (Ok o) = followed-length c s p h o
order-length c s p h (Err refusal) = omega arith

pub frame-reply : (c : ℕ) (p : Board) (sum : ℕ) (s : List ℕ) → length s ≤ 1024 → length (served_message c (frame sum s) p).reply ≤ 3437
unfolding served_content
frame-reply c p sum s h =
    frame-cases c sum s p (λ d. length d.reply ≤ 3437) (order-length c s p h (order_of s (line_at c p).rank)) (omega arith)

-- input 1's ID, n times
unfoldable asked : ℕ → List ℕ
asked zero = []
asked (suc n) = 0 ∷ 0 ∷ 0 ∷ 0 ∷ 0 ∷ 0 ∷ 0x01 ∷ 0xFF ∷ asked n

length-asked : (n : ℕ) → length (asked n) ≡ 8 * n
unfolding asked
length-asked zero = refl
length-asked (suc n) = omega (arith, length-asked n, mul-suc 8 n)

-- its entry has 8 + 2 + 17 bytes, and n of them follow each other
length-entry : (p : Board) → length (entry_of p 0x01FF) ≡ 27
unfolding device_of input_block block_of entry_of
length-entry p = refl

length-entries : (p : Board) (n : ℕ) → length (rows (entry_of p) (map value_of (chunks 8 n (asked n)))) ≡ 27 * n
unfolding rows chunks asked
length-entries p zero = refl
length-entries p (suc n) =
    omega (arith, length-append (entry_of p 0x01FF) (rows (entry_of p) (map value_of (chunks 8 n (asked n)))), length-entry p, length-entries p n, mul-suc 27 n)

-- the frame of 127 entries: 5 bytes of header, 3 before the entries
length-frame : (p : Board) → length (framed (devices_reply (asked 127) p)) ≡ 3437
unfolding devices_reply ids_in
length-frame p = rw (length-asked 127) (omega (arith, length-entries p 127))

-- ReadDevices with a count of 127
abbrev asking : List ℕ
asking = 0x15 ∷ 0x00 ∷ 0x7F ∷ asked 127

asks : (rank : ℕ) → 1 ≤ rank → order_of asking rank ≡ Ok (Read 127)
unfolding order_of read_of judge_read if_listed of_reach onward finished number_at fits
asks rank h = rw (length-asked 127, le-ltb rank 1 h)

pub longest-reached : (c : ℕ) (p : Board) → 1 ≤ (line_at c p).rank
    → (s : List ℕ) × (length s ≡ 3 + 8 * 127) × (length (served_message c (frame (crc_of s) s) p).reply ≡ 3437)
unfolding served_message served_content obeyed follows_it frames_of
longest-reached c p h = (
  asking,
  rw (length-asked 127),
  rw (true-sum asking (is_strict c p), asks (line_at c p).rank h) (ap length (append-nil (framed (devices_reply (asked 127) p))) ∙ length-frame p),
)
