-- The numbers of an order, to say in what range they lie. They decide nothing: only theorems are stated with them.
use Rattle.std.specs.Prelude.{List, ℕ, ◌≤◌, length, Err}
use Rattle.refusals.specs.declared.Refusal.{Refusal as Why}
use Rattle.refusals.specs.declared.Refusal.TheVariants.{NotOffered, LowRank, OutOfRange}
use Rattle.layouts.specs.Outcomes.{Outcome}
use Rattle.orders.specs.declared.Order.{Order}
use Rattle.orders.specs.declared.Order.TheVariants.{Close, Open, Toggle, ClearCount, ClearInputUsage, ClearRelayUsage, PulseRelay, PulseBlock}

-- 01, Answer numbers, lines 8, 9 and 11, and 02, M-105, 1 and 2: why a content is refused: 8, 9 and 11, which have no place, or 20 to 22, that
-- with which its layout breaks, with its place
pub data Refusal (content : List ℕ) : Why → Type 0 where
  not-offered : Refusal content NotOffered
  low-rank : Refusal content LowRank
  out_of_range : Refusal content OutOfRange
  broken : {refusal : Why} → Outcome (length content) (Err refusal) → Refusal content refusal

-- 01, Answer numbers, line 11: a number in its range, from low to high
abbrev pub Within : ℕ → ℕ → ℕ → Type 0
Within low high n = (low ≤ n) × (n ≤ high)

-- 01, Messages, 10, 2, and 02, M-100, 1, and M-102, 2 and 3: the channel of an order that has one, and how far it goes
pub data ChannelOf : Order → ℕ → ℕ → Type 0 where
  close : {k : ℕ} → ChannelOf (Close k) 16 k
  opening : {k : ℕ} → ChannelOf (Open k) 16 k
  toggle : {k : ℕ} → ChannelOf (Toggle k) 16 k
  clear-count : {k : ℕ} → ChannelOf (ClearCount k) 8 k
  clear-input-usage : {k : ℕ} → ChannelOf (ClearInputUsage k) 8 k
  clear-relay-usage : {k : ℕ} → ChannelOf (ClearRelayUsage k) 8 k
  pulse : {k ms : ℕ} → ChannelOf (PulseRelay k ms) 16 k

-- 02, M-100, 1: the duration of an order that has one
pub data DurationOf : Order → ℕ → Type 0 where
  relay : {k ms : ℕ} → DurationOf (PulseRelay k ms) ms
  block : {mask states ms : ℕ} → DurationOf (PulseBlock mask states ms) ms
