-- Each beginning and each end is a change of its own.
--     begins-due, ends-due   02, M-100, 3, and M-102, 4 and 6: where a relay's state really changes, every connection that watches is told: of
--                            one of the first eight by the Monitor message's mark, and, a module being present, of any by the External one's
--     own-change             02, M-100, 3: so behind an end that changed a state, also where the next beginning changes it back
--     next-change            02, M-100, 3: and behind a beginning that did, also where the end before it changed nothing
--     no_change              02, M-100, 3: where no state changes, the connections are as they were
use mathlib.Core.Path.{◌≡◌, refl, sym, ap, ◌∙◌}
use mathlib.Core.Bool.{Bool, true, false, true≢false, cond, ◌&&◌, or-true}
use mathlib.Core.List.{List, []}
use Prim.Native.Nat.{ℕ, zero, suc, ◌+◌, ◌-◌, ◌%◌, ◌^◌, ◌<◌, ◌≤◌}
use native.Mathlib.Omega.{arith}
use lib.Dec.{ltb}
use lib.ListN.{length}
use lib.Seq.{get_or-set_other}
use borrow.Author.Tests.{lt-ltb, ltb-true, ltb-false}
use Rattle.laws.specs.Each.{any_below}
use Rattle.laws.proofs.Each.{none_of}
use Rattle.laws.proofs.Tests.{by_cases}
use Rattle.records.specs.declared.Queue.{Queue}
use Rattle.records.specs.declared.Line.{Line}
use Rattle.records.specs.declared.Relay.{Relay}
use Rattle.records.specs.Records.{line_in, due_words, relay_in, blank_relay}
use Rattle.rows.specs.Places.{Board, is_relay, row_at, relay_at, line_at, first_relay}
use Rattle.rows.specs.Places.{relay_place, clock_row, first_line, line_place, queue_row, queue_of, put_queue, on_rows}
use Rattle.rows.proofs.Range.{beyond}
use Rattle.laws.specs.Bits.{bit_of}
use Rattle.blocks.specs.Blocks.{masked, blocked, moves, block_moved, blocked_row, block_of}
use Rattle.changes.proofs.Making.{differ_same}
use Rattle.modules.specs.declared.Moved.{Moved}
use Rattle.modules.specs.Modules.{filled, place_row, has_module}
use Rattle.marks.specs.Marks.{with_marks, watches, marked_row, any_moved, marked}
use Rattle.ring.specs.declared.Pulse.{Pulse}
use Rattle.pulses.specs.Pulses.{states_of, switched, beginning, begun, ended, turned}
use Rattle.ring.specs.Ring.{runs, popped}
use Rattle.pulses.proofs.Passing.{no_row}
use Rattle.queue.specs.Listed.{moved, Told}
use Rattle.queue.proofs.Relays.{rows-length, among, switched-masked, switched-unmasked, relay-put, put-length, ended-length}

-- ---- any of them

any-one : (n k : ℕ) (p : ℕ → Bool) → k < n → p k ≡ true → any_below n p ≡ true
unfolding any_below
any-one zero k p h e = absurd (omega arith)
any-one (suc n) k p h e =
    by_cases (ltb k n)
    (λ t. rw (any-one n k p (ltb-true k n t) e))
    (λ f. let s : n ≡ k = omega (arith, ltb-false k n f) in rw (s, e) (or-true (any_below k p)))

-- ---- the marks

-- what a change makes of a connection that watches: marks are set, and none is taken back
abbrev pub noting : Bool → Bool → Line → Line
noting due external l = with_marks (cond due true l.due) (cond external true l.external) l

-- a connection's row, where something changed
line-in : (due external : Bool) (row : List ℕ)
    → line_in (marked_row due external row) ≡ cond (watches (line_in row)) (noting due external (line_in row)) (line_in row)
unfolding marked_row
line-in due external row =
    by_cases (watches (line_in row))
    (λ t. rw t (go due external))
    (λ f. rw f)
  where
    go : (due external : Bool) → line_in (due_words due external row) ≡ noting due external (line_in row)
    go true true = refl
    go true false = refl
    go false true = refl
    go false false = refl

row-marked : (due external : Bool) (c : ℕ) (b : Board) → c < 4
    → line_in (row_at (line_place c) (on_rows first_line 4 (λ _. marked_row due external) b)) ≡ line_in (marked_row due external (row_at (line_place c) b))
unfolding marked_row
row-marked due external c b h =
    let f : ℕ → List ℕ → List ℕ = λ _. marked_row due external in
    let e : line_place c ≡ first_line + c = omega arith in
    by_cases (ltb (line_place c) (length b))
    (λ t. rw e (ap line_in (among first_line 4 c f b h (omega (arith, ltb-true (line_place c) (length b) t)))))
    (λ n. let l = ltb-false (line_place c) (length b) n in
    rw (no_row (line_place c) (on_rows first_line 4 f b) (rw (rows-length first_line 4 f b) l), no_row (line_place c) b l)
    (nothing due external))
  where
    -- a row that is not there is no connection's that watches
    nothing : (due external : Bool) → line_in [] ≡ line_in (marked_row due external [])
    nothing due external = refl

pub line_marked : (m : Moved) (c : ℕ) (b : Board) → c < 4
    → line_at c (marked m b) ≡ cond (any_moved m && watches (line_at c b)) (noting m.inner (has_module b) (line_at c b)) (line_at c b)
unfolding marked line_at
line_marked m c b h =
    by_cases (any_moved m)
    (λ t. rw (t, lt-ltb c 4 h) (row-marked m.inner (has_module b) c b h ∙ line-in m.inner (has_module b) (row_at (line_place c) b)))
    (λ f. rw f)

-- whether a switching changes something
abbrev changing : ℕ → ℕ → Board → Bool
changing mask states b = any_moved (block_moved mask states b)

-- a switching leaves the places
pub module-blocked : (mask states : ℕ) (b : Board) → has_module (on_rows first_relay 16 (blocked_row mask states) b) ≡ has_module b
unfolding filled
module-blocked mask states b =
    rw (beyond first_relay 16 (place_row 1) (blocked_row mask states) b (omega arith), beyond first_relay 16 (place_row 2) (blocked_row mask states) b (omega arith))

line-switched : (mask states c : ℕ) (b : Board) → c < 4
    → line_at c (switched mask states b)
    ≡ cond (changing mask states b && watches (line_at c b)) (noting (block_moved mask states b).inner (has_module b) (line_at c b)) (line_at c b)
unfolding switched block_of line_at
line-switched mask states c b h =
    let z : Board = on_rows first_relay 16 (blocked_row mask states) b in
    let e : row_at (line_place c) z ≡ row_at (line_place c) b = beyond first_relay 16 (line_place c) (blocked_row mask states) b (omega arith) in
    rw (e, module-blocked mask states b) at (line_marked (block_moved mask states b) c z h)

-- and so do the marks
pub module-marked : (m : Moved) (b : Board) → has_module (marked m b) ≡ has_module b
unfolding filled marked
module-marked m b =
    let f : ℕ → List ℕ → List ℕ = λ _. marked_row m.inner (has_module b) in
    by_cases (any_moved m)
    (λ t. rw (t, beyond first_line 4 (place_row 1) f b (omega arith), beyond first_line 4 (place_row 2) f b (omega arith)))
    (λ n. rw n)

line-put : (q : Queue) (c : ℕ) (b : Board) → c < 4 → line_at c (put_queue q b) ≡ line_at c b
unfolding line_at put_queue
line-put q c b h = rw (get_or-set_other b queue_row (line_place c) _ [] (λ e. omega arith))

module-put : (q : Queue) (b : Board) → has_module (put_queue q b) ≡ has_module b
unfolding filled put_queue
module-put q b =
    rw (get_or-set_other b queue_row (place_row 1) _ [] (λ e. omega arith), get_or-set_other b queue_row (place_row 2) _ [] (λ e. omega arith))

-- a mark that is set stays, a connection that watches goes on watching
module _ (l : Line) where
  told-on : (k : ℕ) (b : Board) (t i x : Bool) → Told k b l → Told k b (cond t (noting i x l) l)
  told-on k b true i x e = record { monitor = λ h. set i (e.monitor h); external = λ h. set x (e.external h) }
    where
      set : {was : Bool} (t : Bool) → was ≡ true → cond t true was ≡ true
      set true e = refl
      set false e = e
  told-on k b false i x e = e

  watches-on : (t i x : Bool) → watches (cond t (noting i x l) l) ≡ watches l
  watches-on true i x = refl
  watches-on false i x = refl

-- ---- a switching that changes a relay's state is seen

relay-blocked : (mask states k : ℕ) (b : Board) → k < 16 → clock_row ≤ length b
    → (relay_at (k + 1) (switched mask states b)).closed ≡ (blocked mask states k (relay_at (k + 1) b)).closed
unfolding masked relay_at
relay-blocked mask states k b h l =
    by_cases (bit_of mask k)
    (λ t. rw t (ap (λ (r : Relay). r.closed) (switched-masked mask states b k h l t)))
    (λ f. rw f (ap (λ (r : Relay). r.closed) (same_row k b (switched mask states b) (switched-unmasked mask states b k h f))))
  where
    same_row : (k : ℕ) (b z : Board) → row_at (relay_place (k + 1)) z ≡ row_at (relay_place (k + 1)) b → relay_at (k + 1) z ≡ relay_at (k + 1) b
    same_row k b z e = ap (λ (row : List ℕ). cond (is_relay (k + 1)) (relay_in row) blank_relay) e

-- a relay that moves does so on one of the decks, and one that does not on none
module _ (moving : ℕ → Bool) where
  abbrev on_decks : Moved
  on_decks = record { inner = any_below 8 moving; outer = any_below 8 (λ k. moving (8 + k)) }

  moved-inner : (k : ℕ) → k < 8 → moving k ≡ true → on_decks.inner ≡ true
  moved-inner k h m = any-one 8 k moving h m

  moved-any : (k : ℕ) → k < 16 → moving k ≡ true → any_moved on_decks ≡ true
  moved-any k h m =
      by_cases (ltb k 8)
      (λ t. rw (moved-inner k (ltb-true k 8 t) m))
      (λ f. let e : 8 + (k - 8) ≡ k = omega (arith, ltb-false k 8 f) in
      let o : on_decks.outer ≡ true = any-one 8 (k - 8) (λ j. moving (8 + j)) (omega (arith, ltb-false k 8 f)) (rw e m) in rw o (or-true on_decks.inner))

  moved_none : ((k : ℕ) → k < 16 → moving k ≡ false) → any_moved on_decks ≡ false
  moved_none f =
      rw (none_of 8 moving (λ k h. f k (omega arith)), none_of 8 (λ k. moving (8 + k)) (λ k h. f (8 + k) (omega arith)))

-- a switching of a board whose queue alone was stored before
module _ (mask states : ℕ) (q : Queue) (b : Board) where
  abbrev after : Board
  after = switched mask states (put_queue q b)

  -- whether the relay at place k moves
  abbrev moves_at : ℕ → Bool
  moves_at k = moves mask states k (relay_at (k + 1) (put_queue q b))

  line_after : (c : ℕ) → c < 4
      → line_at c after
      ≡ cond (changing mask states (put_queue q b) && watches (line_at c b)) (noting (block_moved mask states (put_queue q b)).inner (has_module b) (line_at c b))
      (line_at c b)
  line_after c h = rw (line-put q c b h, module-put q b) at (line-switched mask states c (put_queue q b) h)

  told-kept : (c k : ℕ) (z : Board) → c < 4 → Told k z (line_at c b) → Told k z (line_at c after)
  told-kept c k z h e =
      rw (line_after c h)
      (told-on (line_at c b) k z (changing mask states (put_queue q b) && watches (line_at c b)) (block_moved mask states (put_queue q b)).inner (has_module b) e)

  watches-kept : (c : ℕ) → c < 4 → watches (line_at c after) ≡ watches (line_at c b)
  watches-kept c h = ap watches (line_after c h)
      ∙ watches-on (line_at c b) (changing mask states (put_queue q b) && watches (line_at c b)) (block_moved mask states (put_queue q b)).inner (has_module b)

  moved-is : (k : ℕ) → k < 16 → clock_row ≤ length b → moved (k + 1) b after ≡ moves_at k
  moved-is k h l = rw (relay-blocked mask states k (put_queue q b) h (rw (put-length q b) l), relay-put q k b h)

  told-after : (c k : ℕ) → c < 4 → k < 16 → clock_row ≤ length b → watches (line_at c b) ≡ true → moved (k + 1) b after ≡ true → Told k b (line_at c after)
  told-after c k h j l w m =
      let e : moves_at k ≡ true = sym (moved-is k j l) ∙ m in
      let a : changing mask states (put_queue q b) ≡ true = moved-any moves_at k j e in
      rw (line_after c h, a, w)
      (record { monitor = λ o. rw (moved-inner moves_at k o e); external = λ x. rw x })

  still_after : (c : ℕ) → c < 4 → clock_row ≤ length b → ((k : ℕ) → k < 16 → moved (k + 1) b after ≡ false) → line_at c after ≡ line_at c b
  still_after c h l f =
      let a : changing mask states (put_queue q b) ≡ false = moved_none moves_at (λ k j. sym (moved-is k j l) ∙ f k j) in
      rw (line_after c h, a)

  module-after : has_module after ≡ has_module b
  unfolding switched block_of
  module-after = module-marked _ _ ∙ module-blocked mask states (put_queue q b) ∙ module-put q b

-- ---- a beginning and an end

module _ (p : Pulse) (b : Board) (c : ℕ) (h : c < 4) where
  told-stays : (k : ℕ) (z : Board) → Told k z (line_at c b) → Told k z (line_at c (begun p b))
  unfolding begun
  told-stays k z e = told-kept p.mask p.states (beginning p (states_of b) (queue_of b)) b c k z h e

  watches-stays : watches (line_at c (ended p b)) ≡ watches (line_at c b)
  unfolding ended
  watches-stays = watches-kept p.mask ((queue_of b).remembered % 2 ^ 16) (popped (queue_of b)) b c h

  module-stays : has_module (ended p b) ≡ has_module b
  unfolding ended
  module-stays = module-after p.mask ((queue_of b).remembered % 2 ^ 16) (popped (queue_of b)) b

  module _ (l : clock_row ≤ length b) where
    pub begins-due : (k : ℕ) → k < 16 → watches (line_at c b) ≡ true → moved (k + 1) b (begun p b) ≡ true → Told k b (line_at c (begun p b))
    unfolding begun
    begins-due k j w m = told-after p.mask p.states (beginning p (states_of b) (queue_of b)) b c k h j l w m

    pub ends-due : (k : ℕ) → k < 16 → watches (line_at c b) ≡ true → moved (k + 1) b (ended p b) ≡ true → Told k b (line_at c (ended p b))
    unfolding ended
    ends-due k j w m = told-after p.mask ((queue_of b).remembered % 2 ^ 16) (popped (queue_of b)) b c k h j l w m

    pub no_change : (((k : ℕ) → k < 16 → moved (k + 1) b (begun p b) ≡ false) → line_at c (begun p b) ≡ line_at c b)
        × (((k : ℕ) → k < 16 → moved (k + 1) b (ended p b) ≡ false) → line_at c (ended p b) ≡ line_at c b)
    unfolding begun ended
    no_change = (
      still_after p.mask p.states (beginning p (states_of b) (queue_of b)) b c h l,
      still_after p.mask ((queue_of b).remembered % 2 ^ 16) (popped (queue_of b)) b c h l,
    )

module _ (p next : Pulse) (b : Board) (c k : ℕ) (h : c < 4) (j : k < 16) (l : clock_row ≤ length b) (w : watches (line_at c b) ≡ true) where
  pub own-change : moved (k + 1) b (ended p b) ≡ true → Told k b (line_at c (turned p next b))
  unfolding turned
  own-change m =
      let d = ends-due p b c h l k j w m in
      by_cases (runs (queue_of (ended p b)))
      (λ r. rw r (told-stays next (ended p b) c h k b d))
      (λ r. rw r d)

  pub next-change : moved (k + 1) (ended p b) (turned p next b) ≡ true → Told k b (line_at c (turned p next b))
  unfolding turned
  next-change m =
      by_cases (runs (queue_of (ended p b)))
      (λ r. let d = begins-due next (ended p b) c h (rw (ended-length p b) l) k j (watches-stays p b c h ∙ w) (rw r at m) in
      rw r (record { monitor = d.monitor; external = λ x. d.external (module-stays p b c h ∙ x) }))
      (λ r. absurd (true≢false (sym (rw r at m) ∙ differ_same (relay_at (k + 1) (ended p b)).closed)))
