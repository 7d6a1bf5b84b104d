-- What a change of relays, the marks and a store to a place's row all keep, a place that is filled or emptied keeps.
use mathlib.Core.Bool.{Bool, true, false}
use mathlib.Core.List.{List}
use Prim.Native.Nat.{ℕ, ◌≤◌}
use native.Mathlib.Omega.{arith}
use lib.ListN.{set}
use Rattle.laws.proofs.Tests.{by_cases}
use Rattle.rows.specs.Places.{Board, first_place}
use Rattle.modules.specs.declared.Moved.{Moved}
use Rattle.modules.specs.Modules.{is_place, filled, place_row, place_set, has_module}
use Rattle.blocks.specs.Blocks.{block_of}
use Rattle.marks.specs.Marks.{marked, external_cleared}
use Rattle.answers.specs.Calls.{Did}
use Rattle.filling.specs.Filling.{opened, filled_at, last_gone, emptied_at, place_filled, place_emptied}
use Rattle.register.proofs.Cases.{place-cases}

pub record Fills (P : Board → Type 0) : Type 0 where
  pub change : (mask states : ℕ) (b : Board) → P b → P (block_of mask states b).board
  pub place : (n : ℕ) (row : List ℕ) (b : Board) → first_place ≤ n → P b → P (set b n row)
  pub marks : (moved : Moved) (b : Board) → P b → P (marked moved b)
  pub clears : (b : Board) → P b → P (external_cleared b)

module _ {P : Board → Type 0} (k : Fills P) where
  place-keeps : (p : ℕ) (holds : Bool) (b : Board) → P b → P (place_set p holds b)
  unfolding place_set
  place-keeps p holds b h = by_cases (is_place p) (λ t. rw t (k.place (place_row p) _ b (omega arith) h)) (λ n. rw n h)

  last-keeps : (b : Board) → P b → P (last_gone b)
  unfolding last_gone
  last-keeps b h = by_cases (has_module b) (λ t. rw t h) (λ n. rw n (k.clears b h))

  filled-at : (p : ℕ) (b : Board) → P b → P (filled_at p b)
  unfolding filled_at
  filled-at p b h = by_cases (filled p b) (λ t. rw t h) (λ n. rw n (place-keeps p true (opened p b).board (k.change _ _ b h)))

  emptied-at : (p : ℕ) (b : Board) → P b → P (emptied_at p b)
  unfolding emptied_at
  emptied-at p b h =
      by_cases (filled p b)
      (λ t. rw t (last-keeps _ (k.marks _ _ (place-keeps p false (opened p b).board (k.change _ _ b h)))))
      (λ n. rw n h)

  pub filled_keeps : (records p : ℕ) (b : Board) → P b → P (place_filled records p b).board
  unfolding place_filled
  filled_keeps records p b h = place-cases filled_at records p b (λ (d : Did). P d.board) h h (filled-at p b h)

  pub emptied-keeps : (records p : ℕ) (b : Board) → P b → P (place_emptied records p b).board
  unfolding place_emptied
  emptied-keeps records p b h = place-cases emptied_at records p b (λ (d : Did). P d.board) h h (emptied-at p b h)
