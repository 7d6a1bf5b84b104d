-- What passing time, a change of relays, the marks and a store to the queue's row all keep, pulses keep: a request, and time with its ends and
-- beginnings.
use mathlib.Core.List.{List}
use Prim.Native.Nat.{ℕ, zero, suc}
use lib.ListN.{set}
use Rattle.laws.proofs.Tests.{by_cases}
use Rattle.records.specs.declared.Queue.{Queue}
use Rattle.rows.specs.Places.{Board, queue_row, queue_of, put_queue, left_set}
use Rattle.tables.specs.Time.{passed}
use Rattle.blocks.specs.Blocks.{block_of}
use Rattle.modules.specs.declared.Moved.{Moved}
use Rattle.marks.specs.Marks.{marked}
use Rattle.ring.specs.declared.Pulse.{Pulse}
use Rattle.pulses.specs.Pulses.{ends_within, switched, begun, ended, turned, waited, tick, elapsed, accepted}
use Rattle.ring.specs.Ring.{runs}

pub record Keeps (P : Board → Type 0) : Type 0 where
  pub time : (d : ℕ) (b : Board) → P b → P (passed d b)
  pub change : (mask states : ℕ) (b : Board) → P b → P (block_of mask states b).board
  pub marks : (moved : Moved) (b : Board) → P b → P (marked moved b)
  pub store : (row : List ℕ) (b : Board) → P b → P (set b queue_row row)

module _ {P : Board → Type 0} (k : Keeps P) where
  queue-keeps : (q : Queue) (b : Board) → P b → P (put_queue q b)
  unfolding put_queue
  queue-keeps q b h = k.store _ b h

  left-keeps : (v : ℕ) (b : Board) → P b → P (left_set v b)
  unfolding left_set
  left-keeps v b h = k.store _ b h

  switched-keeps : (mask states : ℕ) (b : Board) → P b → P (switched mask states b)
  unfolding switched
  switched-keeps mask states b h = k.marks _ _ (k.change mask states b h)

  begun-keeps : (p : Pulse) (b : Board) → P b → P (begun p b)
  unfolding begun
  begun-keeps p b h = switched-keeps _ _ _ (queue-keeps _ b h)

  ended-keeps : (p : Pulse) (b : Board) → P b → P (ended p b)
  unfolding ended
  ended-keeps p b h = switched-keeps _ _ _ (queue-keeps _ b h)

  turned-keeps : (p next : Pulse) (b : Board) → P b → P (turned p next b)
  unfolding turned
  turned-keeps p next b h =
      by_cases (runs (queue_of (ended p b)))
      (λ r. rw r (begun-keeps next (ended p b) (ended-keeps p b h)))
      (λ r. rw r (ended-keeps p b h))

  waited-keeps : (d : ℕ) (b : Board) → P b → P (waited d b)
  unfolding waited
  waited-keeps d b h = by_cases (runs (queue_of b)) (λ r. rw r (left-keeps _ _ (k.time d b h))) (λ r. rw r (k.time d b h))

  tick-keeps : (row : List Pulse) (b : Board) → P b → P (tick row b)
  unfolding tick
  tick-keeps row b h = by_cases (ends_within 1 (queue_of b)) (λ e. rw e (turned-keeps _ _ _ (k.time 1 b h))) (λ e. rw e (waited-keeps 1 b h))

  pub elapsed-keeps : (row : List Pulse) (d : ℕ) (b : Board) → P b → P (elapsed row d b)
  unfolding elapsed
  elapsed-keeps row zero b h = h
  elapsed-keeps row (suc d) b h = tick-keeps row _ (elapsed-keeps row d b h)

  pub accepted-keeps : (p : Pulse) (b : Board) → P b → P (accepted p b)
  unfolding accepted
  accepted-keeps p b h = by_cases (runs (queue_of b)) (λ r. rw r (queue-keeps _ b h)) (λ r. rw r (begun-keeps p _ (queue-keeps _ b h)))
