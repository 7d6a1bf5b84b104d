-- A byte of the input: what ends a line, what is kept, and the loop over the bytes of a read.
use mathlib.Core.Path.{◌≡◌, refl, sym, ap, ◌∙◌}
use mathlib.Core.List.{List, [], ◌∷◌, ◌++◌, append-nil, append_assoc}
use Prim.Native.Nat.{ℕ, ◌+◌, ◌*◌, ◌≤◌, ◌<◌, min, zero-le}
use native.Mathlib.Nat.{add-zero}
use native.Mathlib.Omega.{arith}
use native.Mathlib.Numerals.{add-one}
use borrow.Author.Tests.{leb-true, leb-false}
use lib.Dec.{eqb, leb}
use lib.ListN.{length, get_or, take}
use lib.Seq.{take-suc, take_all}
use Rattle.laws.specs.Put.{put, Wrote}
use Rattle.laws.proofs.Put.{then, kept as size-kept}
use Rattle.laws.proofs.Tests.{by_cases}
use Rattle.words.specs.Words.{Stored}
use Rattle.words.proofs.Laws.{stored}
use Rattle.rows.specs.Places.{Board}
use Rattle.pieces.specs.declared.Done.{Done}
use Rattle.pieces.specs.Effects.{Effect}
use Rattle.halves.specs.Halves.{Halves}
use Rattle.hexadecimal.specs.Digits.{all_relays, relay_bits, shown_of}
use Rattle.console.specs.Lines.{shown}
use Rattle.console.specs.Console.{Held, held, so_far, line_held, ended, step, says, run, said}
use Rattle.console.proofs.Feeding.{FedLine}

module _ (h : Held) (len : ℕ) where
  -- the line's part of the store is fed, and its answer written
  pub line-ended : (d : Done) (b : Board) (hs : Halves) (rooms reply text out out' : List ℕ) (bits len' : ℕ)
      → FedLine (so_far h) h.board h.halves h.rooms h.reply b hs rooms reply d
      → bits ≡ relay_bits (all_relays b) → text ≡ shown_of d.answer bits → Stored len text out out' len' → len + 7 ≤ length out
      → (held b hs rooms h.line 0 reply ≡ ended h) × Wrote len (shown (line_held h)) out out' len'
  unfolding ended shown shown_of
  line-ended d b hs rooms reply text out out' bits len' f e t w fits =
      let long : length text ≡ 7 = ap length t in
      let shows : text ≡ shown (line_held h) = t ∙ rw (e, f.0.gives, f.0.board) in
      (rw (f.0.board, f.1.0, f.1.1, f.0.leaves), rw shows at (stored (omega arith) w))

-- where nothing is said, nothing is written
pub nothing_wrote : (at : ℕ) (out : List ℕ) → Wrote at [] out out at
unfolding put
nothing_wrote at out = record { bytes = refl; place = sym (add-zero at) }

-- ---- the bytes of a read

run-snoc : (h : Held) (bs : List ℕ) (b : ℕ) → run h (bs ++ (b ∷ [])) ≡ step (run h bs) b
unfolding run
run-snoc h [] b = refl
run-snoc h (x ∷ bs) b = run-snoc (step h x) bs b

said-snoc : (h : Held) (bs : List ℕ) (b : ℕ) → said h (bs ++ (b ∷ [])) ≡ said h bs ++ says (run h bs) b
unfolding run said
said-snoc h [] b = append-nil (says h b)
said-snoc h (x ∷ bs) b =
    ap (λ (l : List ℕ). says h x ++ l) (said-snoc (step h x) bs b)
    ∙ sym (append_assoc (says h x) (said (step h x) bs) (says (run (step h x) bs) b))

-- an answer is seven characters
pub shown-size : (e : Effect) → length (shown e) ≡ 7
unfolding shown shown_of
shown-size e = refl

says-short : (h : Held) (b : ℕ) → length (says h b) ≤ 7
unfolding says
says-short h b = by_cases (eqb b 10) (λ t. rw t (omega (arith, shown-size (line_held h)))) (λ f. rw f (omega arith))

-- the loop's invariant: i bytes are taken, h is held, and len bytes of output stand in o
pub record Running (h₀ : Held) (input o₀ : List ℕ) (h : Held) (o : List ℕ) (len i : ℕ) : Type 0 where
  pub in-range : i ≤ length input
  pub so-far : h ≡ run h₀ (take i input)
  pub wrote : Wrote 0 (said h₀ (take i input)) o₀ o len
  pub room : len ≤ i * 7
  pub same : length o ≡ length o₀

module _ {h₀ : Held} {input o₀ : List ℕ} where
  pub run-start : Running h₀ input o₀ h₀ o₀ 0 0
  unfolding run said put
  run-start = record { in-range = zero-le; so-far = refl; wrote = record { bytes = refl; place = refl }; room = omega arith; same = refl }

  pub run-turn : {h h' : Held} {o o' : List ℕ} {len len' i : ℕ} → Running h₀ input o₀ h o len i → i < length input
      → h' ≡ step h (get_or input i 0) → Wrote len (says h (get_or input i 0)) o o' len' → Running h₀ input o₀ h' o' len' (i + 1)
  run-turn {i = i} m below e w =
      let e' = rw m.so-far at e in
      let w' = rw m.so-far at w in
      record {
        in-range = omega arith;
        so-far = rw (add-one, take-suc input i 0 below, run-snoc) e';
        wrote = rw (add-one, take-suc input i 0 below, said-snoc) (then m.wrote w');
        room = omega (arith, m.room, w'.place, says-short (run h₀ (take i input)) (get_or input i 0));
        same = size-kept w' ∙ m.same;
      }

  -- all bytes are taken
  pub run-done : {h : Held} {o : List ℕ} {len i : ℕ} → Running h₀ input o₀ h o len i → length input ≤ i
      → (h ≡ run h₀ input) × Wrote 0 (said h₀ input) o₀ o len × (len ≤ length input * 7)
  run-done {i = i} m e =
      let t : take i input ≡ input = take_all i input e in
      (rw t at m.so-far, rw t at m.wrote, omega (arith, m.room, m.in-range))

-- the first n bytes, or all that there are
pub take-min : (n k : ℕ) (xs : List ℕ) → k ≡ min (length xs) n → take k xs ≡ take n xs
take-min n k xs e =
    by_cases (leb n (length xs))
    (λ t. ap (λ (j : ℕ). take j xs) {x = k} {y = n} (omega (arith, leb-true n (length xs) t)))
    (λ f. let h = leb-false n (length xs) f in take_all k xs (omega arith) ∙ sym (take_all n xs (omega arith)))
