-- What a message's answer number says: 1 where it is served; else nothing changed, nothing is sent, and the number is none of 0, 3 and 4, nor
-- 10; and where it has a place.
use mathlib.Core.Path.{◌≡◌, refl, sym, ◌∙◌}
use mathlib.Core.Bool.{Bool, true, false, true≢false, cond}
use mathlib.Core.List.{List, []}
use Prim.Native.Nat.{ℕ}
use lib.Dec.{eqb, ltb}
use Rattle.laws.proofs.Tests.{by_cases}
use Rattle.steps.specs.Cut.{Got, keep_alive, stray, too_long, frame}
use Rattle.records.specs.declared.Input.{Input}
use Rattle.records.specs.declared.Relay.{Relay}
use Rattle.rows.specs.Places.{Board, is_channel, line_at, queue_of}
use Rattle.modules.specs.declared.Moved.{Moved}
use Rattle.modules.specs.Modules.{present, has_module, unmoved}
use Rattle.ring.specs.declared.Pulse.{Pulse}
use Rattle.ring.specs.Ring.{pulse_of, relay_pulse, is_full}
use Rattle.changes.specs.Answers as tables
use Rattle.changes.specs.Answers.{on_input, on_relay}
use Rattle.changes.specs.Levels.{has_level, level_of}
use Rattle.edits.specs.Edits.{told}
use Rattle.changes.specs.Commands.{on_present}
use Rattle.blocks.specs.Blocks.{block_of}
use Rattle.std.specs.Prelude.{Result, Ok, Err}
use Rattle.refusals.specs.declared.Refusal.{Refusal as Why}
use Rattle.refusals.specs.Refusals.{number_of as refusal_number, place_of}
use Rattle.orders.specs.declared.Order.{Order}
use Rattle.orders.specs.declared.Order.TheVariants.{Clock, Monitor, Usage, MonitorOff, MonitorOn, SetClock, Close, Open, Toggle, ClearCount, ClearInputUsage, ClearRelayUsage, Block, PulseRelay, PulseBlock, Read, Write, Enumerate}
use Rattle.orders.specs.Orders.{order_of}
use Rattle.layouts.specs.Outcomes.{early, surplus, in_list}
use Rattle.orders.specs.Ranges.{Refusal, not-offered, low-rank, out_of_range, broken}
use Rattle.orders.proofs.Orders.{refusals}
use Rattle.marks.specs.Marks.{marked}
use Rattle.plain.specs.Events.{changed_to, leveled, if_wanted}
use Rattle.external.specs.External.{external_reply}
use Rattle.answers.specs.Calls.{Did, refused, refused_at, frames_of, followed_by, sealing}
use Rattle.serving.specs.Obeying.{monitor_set, clock_told, pulsed, pulsed_relay, obeyed, follows_it}
use Rattle.serving.specs.Serving.{served_order, served_content, served_message}
use Rattle.serving.proofs.Following.{monitor-or}
use Rattle.register.specs.Box.{before_bytes}
use Rattle.register.specs.Laws.{is_broken, Placed}
use Rattle.register.proofs.Cases.{frame-cases}

-- a number that answers a message: not 0, which waits, and not 3 or 4, which refuse a call
abbrev pub Answering : ℕ → Type 0
Answering n = (eqb n 0 ≡ false) × (before_bytes n ≡ false)

-- served, without a place, or refused whole
pub data Judged (p : Board) : Did → Type 0 where
  serves : {d : Did} → d.answer ≡ 1 → d.place ≡ 0 → Judged p d
  refuses : (n place : ℕ) → Answering n → Placed (refused_at n place p) → Judged p (refused_at n place p)

-- a number that is not 10 has the place 0
pub unplaced : {d : Did} → eqb d.answer 10 ≡ false → d.place ≡ 0 → Placed d
unplaced t e = record { never-ten = t; else-none = λ _. e }

-- a refusal by its number alone
plainly : {p : Board} (n : ℕ) → Answering n → eqb n 10 ≡ false → Judged p (refused n p)
plainly n a t = refuses n 0 a (unplaced t refl)

-- one of the three numbers that have a place
broken-at : {p : Board} (n place : ℕ) → Answering n → eqb n 10 ≡ false → is_broken n ≡ true → Judged p (refused_at n place p)
broken-at n place a t b = refuses n place a (record { never-ten = t; else-none = λ e. absurd (true≢false (sym b ∙ e)) })

refusal-judged : {p : Board} {content : List ℕ} {refusal : Why} → Refusal content refusal
    → Judged p (refused_at (refusal_number refusal) (place_of refusal) p)
refusal-judged not-offered = plainly 8 (refl, refl) refl
refusal-judged low-rank = plainly 9 (refl, refl) refl
refusal-judged out_of_range = plainly 11 (refl, refl) refl
refusal-judged (broken early) = broken-at 20 _ (refl, refl) refl refl
refusal-judged (broken (surplus h)) = broken-at 21 _ (refl, refl) refl refl
refusal-judged (broken in_list) = broken-at 22 _ (refl, refl) refl refl

module _ (p : Board) where
  -- a change of the tables
  asked : (channel : Bool) (changed : Moved) (after : Board) → Judged p (changed_to (cond channel (tables.served changed after) (tables.refused p)))
  unfolding marked
  asked true changed after = serves refl refl
  asked false changed after = plainly 11 (refl, refl) refl

  on-input : (f : Input → Input) (k : ℕ) → Judged p (changed_to (on_input f k p))
  unfolding on_input
  on-input f k = asked (is_channel k) _ _

  on-relay : (there : Bool) (f : Relay → Relay) (k : ℕ) → Judged p (changed_to (on_relay there f k p))
  unfolding on_relay
  on-relay there f k = asked there _ _

  on-present : (f : Relay → Relay) (k : ℕ) → Judged p (changed_to (on_present f k p))
  unfolding on_present
  on-present f k = on-relay (present k p) f k

  pub level-judged : (k v : ℕ) → Judged p (leveled k v p)
  unfolding leveled level_of marked
  level-judged k v = go (ltb 1 v) (has_level k (eqb v 1) p)
    where
      go : (t u : Bool) → Judged p (changed_to (cond t (tables.refused p) (cond u (tables.served unmoved p) (on_input (told (eqb v 1)) k p))))
      go true u = plainly 11 (refl, refl) refl
      go false true = serves refl refl
      go false false = on-input (told (eqb v 1)) k

  pulse-judged : (q : Pulse) → Judged p (pulsed q p)
  unfolding pulsed
  pulse-judged q = by_cases (is_full (queue_of p)) (λ e. rw e (plainly 14 (refl, refl) refl)) (λ e. rw e (serves refl refl))

  relay-judged : (k ms : ℕ) → Judged p (pulsed_relay k ms p)
  unfolding pulsed_relay
  relay-judged k ms = by_cases (present k p) (λ t. rw t (pulse-judged (relay_pulse k ms))) (λ f. rw f (plainly 11 (refl, refl) refl))

  module _ (c : ℕ) (s : List ℕ) where
    obeyed-judged : (o : Order) → Judged p (obeyed c s o p)
    unfolding obeyed monitor_set clock_told block_of
    obeyed-judged Clock = serves refl refl
    obeyed-judged Monitor = serves refl refl
    obeyed-judged Usage = serves refl refl
    obeyed-judged MonitorOff = serves refl refl
    obeyed-judged MonitorOn = serves refl refl
    obeyed-judged (SetClock v) = serves refl refl
    obeyed-judged (Close k) = on-present _ k
    obeyed-judged (Open k) = on-present _ k
    obeyed-judged (Toggle k) = on-present _ k
    obeyed-judged (ClearCount k) = on-input _ k
    obeyed-judged (ClearInputUsage k) = on-input _ k
    obeyed-judged (ClearRelayUsage k) = on-relay (is_channel k) _ k
    obeyed-judged (Block mask state) = serves refl refl
    obeyed-judged (PulseRelay k ms) = relay-judged k ms
    obeyed-judged (PulseBlock mask states ms) = pulse-judged (pulse_of mask states ms)
    obeyed-judged (Read n) = serves refl refl
    obeyed-judged (Write n) = serves refl refl
    obeyed-judged (Enumerate flags) = serves refl refl

  -- sealed, and with what goes behind the reply
  unfollowed : (d : Did) → Judged p d → Judged p (followed_by [] (sealing d))
  unfolding frames_of
  unfollowed d (serves e f) = serves e f
  unfollowed d (refuses n place a w) = refuses n place a w

  followed-judged : (c : ℕ) (s : List ℕ) (order : Order) → Judged p (obeyed c s order p)
      → Judged p (followed_by (if_wanted (follows_it order (has_module p)) (external_reply p)) (sealing (obeyed c s order p)))
  unfolding obeyed
  followed-judged c s =
      monitor-or
      (λ order. Judged p (obeyed c s order p)
      → Judged p (followed_by (if_wanted (follows_it order (has_module p)) (external_reply p)) (sealing (obeyed c s order p))))
      (λ j. serves refl refl)
      (λ order none j. rw (none (has_module p)) (unfollowed (obeyed c s order p) j))

  order-judged : (c : ℕ) (s : List ℕ) (o : Result Order Why) → ((refusal : Why) → o ≡ Err refusal → Refusal s refusal) → Judged p (served_order c s o p)
  order-judged c s (Ok o) r = followed-judged c s o (obeyed-judged c s o)
  order-judged c s (Err refusal) r = refusal-judged (r refusal refl)

  pub message-judged : (c : ℕ) (g : Got) → Judged p (served_message c g p)
  unfolding served_message served_content
  message-judged c keep_alive = plainly 2 (refl, refl) refl
  message-judged c stray = plainly 5 (refl, refl) refl
  message-judged c too_long = plainly 6 (refl, refl) refl
  message-judged c (frame sum s) =
      frame-cases c sum s p (Judged p)
      (order-judged c s (order_of s (line_at c p).rank) (λ refusal e. refusals s (line_at c p).rank e))
      (plainly 7 (refl, refl) refl)

-- so a message is always answered by a number of its own
pub judged-answers : (p : Board) (d : Did) → Judged p d → Answering d.answer
judged-answers p d (serves e f) = rw e (refl, refl)
judged-answers p d (refuses n place a w) = a

-- and has a place as its number says
pub judged-placed : (p : Board) (d : Did) → Judged p d → Placed d
judged-placed p d (serves e f) = unplaced (rw e refl) f
judged-placed p d (refuses n place a w) = w
