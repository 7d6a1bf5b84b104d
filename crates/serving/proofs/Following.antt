-- A reply that is sealed, and the External Monitor message behind it where it goes with it.
--     monitor-or   behind every order but that for the Monitor message nothing follows
--     followed     the two replies, one behind the other
use mathlib.Core.Path.{◌≡◌, refl, sym, ap, ◌∙◌}
use mathlib.Core.Bool.{Bool, false}
use mathlib.Core.List.{List, [], ◌∷◌, ◌++◌}
use Prim.Native.Nat.{ℕ, ◌+◌, ◌≤◌}
use native.Mathlib.Omega.{arith}
use native.Mathlib.Nat.{zero-add}
use lib.ListN.{length}
use Rattle.laws.specs.Put.{Wrote}
use Rattle.laws.proofs.Put.{then, length-put}
use Rattle.orders.specs.declared.Order.{Order}
use Rattle.orders.specs.declared.Order.TheVariants.{Clock, Monitor, Usage, MonitorOff, MonitorOn, SetClock, Close, Open}
use Rattle.orders.specs.declared.Order.TheVariants.{Toggle, ClearCount, ClearInputUsage, ClearRelayUsage, Block}
use Rattle.orders.specs.declared.Order.TheVariants.{PulseRelay, PulseBlock, Read, Write, Enumerate}
use Rattle.rows.specs.Places.{Board}
use Rattle.modules.specs.Modules.{has_module}
use Rattle.external.specs.External.{external_reply, external_room}
use Rattle.answers.specs.declared.Served.{Served}
use Rattle.answers.specs.Calls.{Did, framed, sealing, frames_of, followed_by, served_at, Does}
use Rattle.plain.specs.Events.{if_wanted, Behind}
use Rattle.plain.proofs.Frames.{behind-yes}
use Rattle.serving.specs.Obeying.{obeyed, follows_it}
use Rattle.serving.proofs.Lengths.{reply-short}

pub monitor-or : (P : Order → Type 0) → P Monitor → ((order : Order) → ((there : Bool) → follows_it order there ≡ false) → P order) → (order : Order) → P order
unfolding follows_it
monitor-or P asked else Clock = else Clock (λ there. refl)
monitor-or P asked else Monitor = asked
monitor-or P asked else Usage = else Usage (λ there. refl)
monitor-or P asked else MonitorOff = else MonitorOff (λ there. refl)
monitor-or P asked else MonitorOn = else MonitorOn (λ there. refl)
monitor-or P asked else (SetClock v) = else (SetClock v) (λ there. refl)
monitor-or P asked else (Close k) = else (Close k) (λ there. refl)
monitor-or P asked else (Open k) = else (Open k) (λ there. refl)
monitor-or P asked else (Toggle k) = else (Toggle k) (λ there. refl)
monitor-or P asked else (ClearCount k) = else (ClearCount k) (λ there. refl)
monitor-or P asked else (ClearInputUsage k) = else (ClearInputUsage k) (λ there. refl)
monitor-or P asked else (ClearRelayUsage k) = else (ClearRelayUsage k) (λ there. refl)
monitor-or P asked else (Block m s) = else (Block m s) (λ there. refl)
monitor-or P asked else (PulseRelay k ms) = else (PulseRelay k ms) (λ there. refl)
monitor-or P asked else (PulseBlock m s ms) = else (PulseBlock m s ms) (λ there. refl)
monitor-or P asked else (Read n) = else (Read n) (λ there. refl)
monitor-or P asked else (Write n) = else (Write n) (λ there. refl)
monitor-or P asked else (Enumerate f) = else (Enumerate f) (λ there. refl)

-- a frame behind a reply, if it is wanted
behind : (d : Did) (x : List ℕ) {more : Bool} {b : Board} {l o o' : List ℕ} {r : Served} {end : ℕ} → length d.reply + 5 + external_room ≤ length l
    → Does d b l o r → Behind more r.len x o o' end → Does (followed_by (if_wanted more x) d) b l o' (served_at r.answer r.place end)
behind d x {more} {b} {l} {o} {o'} {r} {end} fit e w =
    let n : r.len ≡ length d.reply = ap (λ (s : Served). s.len) e.gives in
    let same : length o ≡ length l = ap length e.leaves ∙ length-put 0 d.reply l in
    let first : Wrote 0 d.reply l o r.len = record { bytes = e.leaves; place = n ∙ sym (zero-add (length d.reply)) } in
    let both : Wrote 0 (d.reply ++ frames_of (if_wanted more x)) l o' end = then first (behind-yes (omega (arith, n, same)) w) in
    record {
      board = e.board;
      gives = rw (ap (λ (s : Served). s.answer) e.gives, ap (λ (s : Served). s.place) e.gives, both.place, zero-add);
      leaves = both.bytes;
    }

-- a sealed reply is five bytes longer than its content, or empty
sealed-short : (vs : List ℕ) → length (framed vs) ≤ 5 + length vs
sealed-short [] = omega arith
sealed-short (v ∷ vs) = omega arith

pub followed : (c : ℕ) (s : List ℕ) (order : Order) (p : Board) → length s ≤ 1024
    → {more : Bool} {b : Board} {l o o' : List ℕ} {r : Served} {end : ℕ} → 4096 ≤ length l → more ≡ follows_it order (has_module p)
    → Does (sealing (obeyed c s order p)) b l o r → Behind more r.len (external_reply b) o o' end
    → Does (followed_by (if_wanted (follows_it order (has_module p)) (external_reply p)) (sealing (obeyed c s order p))) b l o' (served_at r.answer r.place end)
unfolding obeyed follows_it
followed c s order p h {more} {b} {l} {o} {o'} {r} {end} room m e w =
    monitor-or
    (λ order. more ≡ follows_it order (has_module p) → Does (sealing (obeyed c s order p)) b l o r
    → Does (followed_by (if_wanted (follows_it order (has_module p)) (external_reply p)) (sealing (obeyed c s order p))) b l o'
    (served_at r.answer r.place end))
    (λ m e. rw (← m) (behind (sealing (obeyed c s Monitor p)) (external_reply p) (fits Monitor) e (rw e.board at w)))
    (λ order none m e. rw (none (has_module p)) (rw (m ∙ none (has_module p)) at (behind (sealing (obeyed c s order p)) (external_reply b) (fits order) e w)))
    order m e
  where
    fits : (order : Order) → length (sealing (obeyed c s order p)).reply + 5 + external_room ≤ length l
    fits order = omega (arith, sealed-short (obeyed c s order p).reply, reply-short c s order p h)
