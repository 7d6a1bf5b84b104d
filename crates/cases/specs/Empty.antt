-- The empty versions of 01, Register, 4, as properties of any machine that answers the box's calls.
-- Those of the third are in demand/specs/Empty, for every message layer; the fourth, which invents something, is `shut-out-inventing`.
use Rattle.numbers.specs.Numbers as numbers
use Rattle.std.specs.Prelude.{◌≡◌, List, ℕ, ◌≤◌}
use Rattle.ring.specs.declared.Pulse.{Pulse}
use Rattle.powerup.specs.declared.Settings.{Settings}
use Rattle.powerup.specs.PowerUp.{powered_up}
use Rattle.demand.specs.Demand.{Said, waits, refused, did, Machine, bytes}
use Rattle.register.specs.Box.{Reply, refusing, Tables, tables, served, connect}
use Rattle.cases.specs.Starred.{settings}
use Rattle.demand.specs.Empty.{Owing}

-- the reply that an answer shows; where nothing ended it is number 0 without bytes
abbrev pub shown : Said Reply → Reply
shown waits = refusing numbers.waiting
shown (refused r) = r
shown (did r) = r

-- the tables after power-up with the row of pulses that the host lends, and then with connection 0 opened at rank 2, not strict
abbrev pub powered_tables : Settings → List Pulse → Tables
powered_tables s row = tables (powered_up s) row

abbrev pub opened : List Pulse → Tables
opened row = (served.happen (powered_tables settings row) (connect 0 2 0)).0

-- what a machine in state x answers to a frame that it should serve
module _ (M : Machine served) (x : M.State) where
  -- the version that refuses everything: each such frame has one of the numbers from 3 on
  abbrev pub RefusesAll : Type 0
  RefusesAll = (c room : ℕ) (m : List ℕ) → Owing served M x c room m → 3 ≤ (shown (M.call x (bytes c room m)).1.said).number

  -- the version that always replies the same: each such frame has the same number, or the same bytes
  abbrev pub SameNumber : ℕ → Type 0
  SameNumber n = (c room : ℕ) (m : List ℕ) → Owing served M x c room m → (shown (M.call x (bytes c room m)).1.said).number ≡ n

  abbrev pub SameBytes : List ℕ → Type 0
  SameBytes bs = (c room : ℕ) (m : List ℕ) → Owing served M x c room m → (shown (M.call x (bytes c room m)).1.said).sent ≡ bs
