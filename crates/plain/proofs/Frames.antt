-- Frames one behind the other in a reply.
--     sealed-at       the header before a content, at any place
--     framed          a content written behind its header's place and sealed is its frame
--     frames-append   frames of contents, and of others behind them, are those of both
--     behind-yes      what a writer of a frame that is wanted and has room leaves
use mathlib.Core.Path.{◌≡◌, refl, sym, ap, ◌∙◌}
use mathlib.Core.Bool.{Bool, true, false}
use mathlib.Core.List.{List, [], ◌∷◌, ◌++◌, append-nil, append_assoc}
use Prim.Native.Nat.{ℕ, ◌+◌, ◌-◌, ◌≤◌}
use native.Mathlib.Omega.{arith}
use borrow.Author.Tests.{le-leb}
use lib.ListN.{length, take, drop, length-drop}
use lib.Seq.{drop-drop, take_all}
use Rattle.laws.specs.Put.{put, Wrote}
use Rattle.laws.proofs.Put.{then, put-swap, put-append, put-here, put-none}
use Rattle.frames.specs.Seal.{header, frame_of, seal_of, seal_end}
use Rattle.frames.proofs.Sealing.{seal-yes}
use Rattle.answers.specs.Calls.{frames_of}
use Rattle.answers.proofs.Replying.{part-long, given_back}
use Rattle.records.specs.declared.Line.{Line}
use Rattle.rows.specs.Places.{Board}
use Rattle.readings.specs.Readings.{monitor_reply}
use Rattle.external.specs.External.{external_reply, external_room}
use Rattle.readings.proofs.Lengths.{length-monitor}
use Rattle.external.proofs.Lengths.{length-external}
use Rattle.plain.specs.Events.{if_wanted, due_replies, Behind}

-- the part of a buffer behind `at` bytes
abbrev part : ℕ → List ℕ → List ℕ
part at l = take (length l - at) (drop at l)

pub sealed-at : (at n r : ℕ) (l p : List ℕ) → n ≤ 4091 → at + 5 + n ≤ length l → (r ≡ seal_end (part at l) n) × (p ≡ seal_of (part at l) n)
    → Wrote at (header (take n (drop (at + 5) l))) l (take at l ++ (p ++ drop (length l - at) (drop at l))) (at + 5) × (at + r ≡ at + 5 + n)
sealed-at at n r l p small fit e =
    let rest : part at l ≡ drop at l = take_all (length l - at) (drop at l) (omega (arith, length-drop at l)) in
    let long : n + 5 ≤ length (part at l) = omega (arith, part-long at l) in
    let y = seal-yes (part at l) n (omega arith) long in
    let c : take n (drop 5 (part at l)) ≡ take n (drop (at + 5) l) = rw (rest, drop-drop 5 at l) in
    let b : p ≡ put 0 (header (take n (drop (at + 5) l))) (part at l) = e.1 ∙ sym y.1 ∙ ap (λ (x : List ℕ). put 0 (header x) (part at l)) c in
    (record { bytes = given_back at (header (take n (drop (at + 5) l))) l p b; place = omega arith }, omega (arith, e.0, y.0))

pub framed : (at n r : ℕ) (vs l l' l'' : List ℕ) → at + 5 + length vs ≤ length l → l' ≡ put (at + 5) vs l → n ≡ length vs
    → Wrote at (header (take n (drop (at + 5) l'))) l' l'' (at + 5) → r ≡ at + 5 + n → Wrote at (frame_of vs) l l'' r
framed at n r vs l l' l'' fit e m w p =
    let c : take n (drop (at + 5) l') ≡ vs = rw (e, m) (put-here (at + 5) vs l fit) in
    let b : l'' ≡ put at (header vs) (put (at + 5) vs l) = w.bytes ∙ rw (c, e) in
    record { bytes = b ∙ put-swap at (at + 5) (header vs) vs l (omega arith) ∙ put-append at (header vs) vs l; place = p ∙ omega (arith, m) }

pub frames-append : (xs ys : List (List ℕ)) → frames_of (xs ++ ys) ≡ frames_of xs ++ frames_of ys
unfolding frames_of
frames-append [] ys = refl
frames-append (x ∷ xs) ys = rw (frames-append xs ys) (sym (append_assoc (frame_of x) (frames_of xs) (frames_of ys)))

-- one frame, or none
pub one-frame : {at r : ℕ} {vs l l' : List ℕ} → Wrote at (frame_of vs) l l' r → Wrote at (frames_of (vs ∷ [])) l l' r
unfolding frames_of
one-frame {at} {r} {vs} w = rw (append-nil (frame_of vs)) w

pub no-frame : (at : ℕ) (l : List ℕ) → Wrote at (frames_of []) l l at
unfolding frames_of
no-frame at l = record { bytes = sym (put-none at l); place = omega arith }

pub behind-yes : {wanted : Bool} {at r : ℕ} {vs l l' : List ℕ} → at + 5 + external_room ≤ length l → Behind wanted at vs l l' r
    → Wrote at (frames_of (if_wanted wanted vs)) l l' r
behind-yes {wanted} {at} {r} {vs} {l} {l'} h b = go wanted b
  where
    go : (wanted : Bool) → Behind wanted at vs l l' r → Wrote at (frames_of (if_wanted wanted vs)) l l' r
    go true b = let e = le-leb (at + 5 + external_room) (length l) h in one-frame (record { bytes = b.bytes ∙ rw e; place = b.place ∙ rw e })
    go false b = rw (b.bytes, b.place) (no-frame at l)

-- the Monitor message, if it is wanted, has 102 bytes
pub monitor-few : (wanted : Bool) (b : Board) → length (frames_of (if_wanted wanted (monitor_reply b))) ≤ 102
unfolding frames_of
monitor-few true b = omega (arith, ap length (append-nil (frame_of (monitor_reply b))), length-monitor b)
monitor-few false b = omega arith

-- the External one 24 at most
pub external-few : (wanted : Bool) (b : Board) → length (frames_of (if_wanted wanted (external_reply b))) ≤ 24
unfolding frames_of
external-few true b = omega (arith, ap length (append-nil (frame_of (external_reply b))), length-external b)
external-few false b = omega arith

pub no_bytes : length (frames_of []) ≡ 0
unfolding frames_of
no_bytes = refl

-- what is due, one behind the other
pub both-sent : (l : Line) (b : Board) {at r : ℕ} {o₀ o o' : List ℕ} → Wrote 0 (frames_of (if_wanted l.due (monitor_reply b))) o₀ o at
    → Wrote at (frames_of (if_wanted l.external (external_reply b))) o o' r → Wrote 0 (frames_of (due_replies l b)) o₀ o' r
both-sent l b x y = rw (← frames-append (if_wanted l.due (monitor_reply b)) (if_wanted l.external (external_reply b))) at (then x y)
