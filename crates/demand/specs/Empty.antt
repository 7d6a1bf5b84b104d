-- Empty versions of a box, for every message layer: what the byte calls of a machine in state x do where they should serve a message: 01,
-- Register, 4. That no machine which meets demand 3 is one of them is in proofs/Empty.
use Rattle.std.specs.Prelude.{◌≡◌, List, [], ◌∷◌, ℕ, get_or}
use Rattle.std.proofs.Math.Option.{none}
use Rattle.steps.specs.Cut.{messages}
use Rattle.demand.specs.Plain.{Serving}
use Rattle.demand.specs.Demand.{waits, did, bytes, Machine}

-- one whole frame, and nothing besides
pub record OneFrame (m : List ℕ) : Type 0 where
  pub begun : get_or m 0 0 ≡ 1
  pub whole : messages m ≡ m ∷ []

module _ (W : Serving) (M : Machine W) (x : M.State) where
  -- a call that should serve a frame: it hands over that frame alone, and is not refused before any byte
  pub record Owing (c : ℕ) (l : W.Lent) (m : List ℕ) : Type 0 where
    pub taking : W.refusal (M.tables x) c l ≡ none
    pub frame : OneFrame m

  -- the version that takes bytes and does nothing: a frame is not answered
  abbrev pub Waiting : Type 0
  Waiting = (c : ℕ) (l : W.Lent) (m : List ℕ) → Owing c l m → (M.call x (bytes c l m)).1.said ≡ waits

  -- or it changes nothing of the tables
  abbrev pub Frozen : Type 0
  Frozen = (c : ℕ) (l : W.Lent) (m : List ℕ) → Owing c l m → M.tables (M.call x (bytes c l m)).0 ≡ M.tables x

  -- or no byte of it is taken
  abbrev pub Starving : Type 0
  Starving = (c : ℕ) (l : W.Lent) (m : List ℕ) → Owing c l m → (M.call x (bytes c l m)).1.taken ≡ 0

  -- the version that nods: a frame changes nothing of the tables, and is answered like every other
  abbrev pub Nodding : W.Reply → Type 0
  Nodding nod = (c : ℕ) (l : W.Lent) (m : List ℕ) → Owing c l m
      → (M.tables (M.call x (bytes c l m)).0 ≡ M.tables x) × ((M.call x (bytes c l m)).1.said ≡ did nod)
