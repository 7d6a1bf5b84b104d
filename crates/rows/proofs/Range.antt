-- The loop that changes some rows of the board in place.
--     Ranging     its invariant: of n rows from `from` on, k are done;   range-start, range-turn, range-done
--     row-waits   the row whose turn it is has not been changed yet
--     beyond      a row behind them stays
--     one-by-two  the first n rows, and then so many more, are all of them
--     none-moved  rows that are left as they are
--     rows-looped n rows from `from` on, each by the same function, as a loop over them leaves them
--     rows-flow   time that passes for each of these rows flows
use mathlib.Core.Path.{◌≡◌, refl, sym, ap, ◌∙◌}
use mathlib.Core.List.{List, [], ◌∷◌, ◌++◌, map}
use Prim.Native.Nat.{ℕ, zero, suc, ◌+◌, ◌≤◌, ◌<◌, zero-le}
use native.Mathlib.Nat.{le_antisymm, add-zero, zero-add, le_refl, not-suc-le-zero, le_of_suc-le-suc}
use native.Mathlib.Omega.{arith}
use native.Mathlib.Numerals.{add-one}
use lib.ListN.{length, get_or, set, take, drop}
use lib.Seq.{set-get_or, take-nil, drop-nil}
use Rattle.std.proofs.Math.ListN.{drop_of_length-le}
use Rattle.std.proofs.lemmas.List.{append-nil, take-append-drop}
use Rattle.laws.proofs.Flow.{Flow}
use Rattle.rows.specs.Places.{Board, row_at, on_rows}

pub none_yet : (from : ℕ) (f : ℕ → List ℕ → List ℕ) (b : Board) → on_rows from 0 f b ≡ b
unfolding on_rows
none_yet from f [] = refl
none_yet zero f (row ∷ b) = refl
none_yet (suc from) f (row ∷ b) = ap (λ (l : Board). row ∷ l) (none_yet from f b)

pub behind : (n j : ℕ) (f : ℕ → List ℕ → List ℕ) (b : Board) → n ≤ j → row_at j (on_rows 0 n f b) ≡ row_at j b
unfolding on_rows
behind n j f [] h = refl
behind zero j f (row ∷ b) h = refl
behind (suc n) zero f (row ∷ b) h = absurd (omega arith)
behind (suc n) (suc j) f (row ∷ b) h = behind n j (λ k. f (suc k)) b (omega arith)

pub beyond : (from n j : ℕ) (f : ℕ → List ℕ → List ℕ) (b : Board) → from + n ≤ j → row_at j (on_rows from n f b) ≡ row_at j b
unfolding on_rows
beyond from n j f [] h = refl
beyond zero n j f (row ∷ b) h = behind n j f (row ∷ b) (omega arith)
beyond (suc from) n zero f (row ∷ b) h = absurd (omega arith)
beyond (suc from) n (suc j) f (row ∷ b) h = beyond from n j f b (omega arith)

one-more-first : (k : ℕ) (f : ℕ → List ℕ → List ℕ) (b : Board) → set (on_rows 0 k f b) k (f k (get_or (on_rows 0 k f b) k [])) ≡ on_rows 0 (suc k) f b
unfolding on_rows
one-more-first k f [] = refl
one-more-first zero f (row ∷ b) = ap (λ (l : Board). f 0 row ∷ l) (sym (none_yet 0 (λ k. f (suc k)) b))
one-more-first (suc k) f (row ∷ b) = ap (λ (l : Board). f 0 row ∷ l) (one-more-first k (λ k. f (suc k)) b)

pub one_more : (from k : ℕ) (f : ℕ → List ℕ → List ℕ) (b : Board)
    → set (on_rows from k f b) (from + k) (f k (get_or (on_rows from k f b) (from + k) [])) ≡ on_rows from (suc k) f b
unfolding on_rows
one_more from k f [] = refl
one_more zero k f (row ∷ b) = rw zero-add (one-more-first k f (row ∷ b))
one_more (suc from) k f (row ∷ b) = let e : suc from + k ≡ suc (from + k) = omega arith in rw e (ap (λ (l : Board). row ∷ l) (one_more from k f b))

waits : (from k : ℕ) (f : ℕ → List ℕ → List ℕ) (b : Board) → get_or (on_rows from k f b) (from + k) [] ≡ get_or b (from + k) []
unfolding on_rows
waits from k f [] = refl
waits zero k f (row ∷ b) = rw zero-add (behind k k f (row ∷ b) (le_refl k))
waits (suc from) k f (row ∷ b) = let e : suc from + k ≡ suc (from + k) = omega arith in rw e (waits from k f b)

pub record Ranging (from n : ℕ) (f : ℕ → List ℕ → List ℕ) (b₀ b : Board) (k : ℕ) : Type 0 where
  pub in-range : k ≤ n
  pub so-far : b ≡ on_rows from k f b₀

module _ {from n : ℕ} {f : ℕ → List ℕ → List ℕ} {b₀ : Board} where
  pub range-start : Ranging from n f b₀ b₀ 0
  range-start = record { in-range = zero-le; so-far = sym (none_yet from f b₀) }

  -- the row of turn k stands at place p
  pub range-turn : {b b' : Board} {k : ℕ} (p : ℕ) → p ≡ from + k → Ranging from n f b₀ b k → k < n → b' ≡ set b p (f k (row_at p b))
      → Ranging from n f b₀ b' (k + 1)
  range-turn {b} {b'} {k} p e m h q = record { in-range = omega arith; so-far = rw (q, e, m.so-far, add-one) (one_more from k f b₀) }

  pub row-waits : {b : Board} {k : ℕ} (p : ℕ) → p ≡ from + k → Ranging from n f b₀ b k → row_at p b ≡ row_at p b₀
  row-waits {b} {k} p e m = rw e (ap (λ (l : Board). get_or l (from + k) []) m.so-far ∙ waits from k f b₀)

  pub range-done : {b : Board} {k : ℕ} → Ranging from n f b₀ b k → n ≤ k → b ≡ on_rows from n f b₀
  range-done {b} {k} m h = m.so-far ∙ ap (λ (j : ℕ). on_rows from j f b₀) (le_antisymm m.in-range h)

mapped : (from n : ℕ) (f : List ℕ → List ℕ) (b : Board)
    → take from b ++ (map f (take n (drop from b)) ++ drop n (drop from b)) ≡ on_rows from n (λ _. f) b
unfolding on_rows
mapped from n f [] = rw (take-nil from, drop-nil {A = List ℕ} from, take-nil {A = List ℕ} n, drop-nil {A = List ℕ} n)
mapped zero zero f (row ∷ b) = refl
mapped zero (suc n) f (row ∷ b) = ap (λ (l : Board). f row ∷ l) (mapped zero n f b)
mapped (suc from) n f (row ∷ b) = ap (λ (l : Board). row ∷ l) (mapped from n f b)

all-taken : (n : ℕ) (b : Board) → length b ≤ n → take n b ≡ b
all-taken n b h = sym (append-nil (take n b)) ∙ ap (λ (l : Board). take n b ++ l) (sym (drop_of_length-le b h)) ∙ take-append-drop n b

-- n rows from `from` on, each by the same function, as a loop over them leaves them behind its turn k, the last
pub rows-looped : (from n : ℕ) (f : List ℕ → List ℕ) {b b₀ items : Board} {k : ℕ} → b ≡ b₀ → length (take n (drop from b)) ≤ k
    → items ≡ map f (take k (take n (drop from b))) ++ drop k (take n (drop from b))
    → take from b ++ (items ++ drop n (drop from b)) ≡ on_rows from n (λ _. f) b₀
rows-looped from n f {b} v l e =
    let part = take n (drop from b) in
    rw (e, all-taken _ part l, drop_of_length-le part l, append-nil (map f part), ← v) (mapped from n f b)

-- the first n rows and then so many more
pub one-by-two : (from n m : ℕ) (f : ℕ → List ℕ → List ℕ) (b : Board) → on_rows from (n + m) f b ≡ on_rows (from + n) m (λ k. f (n + k)) (on_rows from n f b)
one-by-two from n zero f b = ap (λ (j : ℕ). on_rows from j f b) (add-zero n) ∙ sym (none_yet (from + n) (λ k. f (n + k)) (on_rows from n f b))
one-by-two from n (suc m) f b =
    let e : n + suc m ≡ suc (n + m) = omega arith in
    let p : from + (n + m) ≡ from + n + m = omega arith in
    rw (e, sym (one_more from (n + m) f b), p, one-by-two from n m f b) (one_more (from + n) m (λ k. f (n + k)) (on_rows from n f b))

-- rows that are all left as they are
pub none-moved : (from n : ℕ) (f : ℕ → List ℕ → List ℕ) (b : Board) → ((k : ℕ) (row : List ℕ) → f k row ≡ row) → on_rows from n f b ≡ b
none-moved from zero f b h = none_yet from f b
none-moved from (suc n) f b h =
    sym (one_more from n f b)
    ∙ ap (set (on_rows from n f b) (from + n)) (h n (get_or (on_rows from n f b) (from + n) []))
    ∙ set-get_or (on_rows from n f b) (from + n) [] ∙ none-moved from n f b h

-- ---- what on_rows leaves, and what it does to time

pub within : (n j : ℕ) (f : ℕ → List ℕ → List ℕ) (b : Board) → j < n → j < length b → row_at j (on_rows 0 n f b) ≡ f j (row_at j b)
unfolding on_rows
within n j f [] h l = absurd (not-suc-le-zero l)
within zero j f (row ∷ b) h l = absurd (not-suc-le-zero h)
within (suc n) zero f (row ∷ b) h l = refl
within (suc n) (suc j) f (row ∷ b) h l = within n j (λ k. f (suc k)) b (le_of_suc-le-suc h) (le_of_suc-le-suc l)

pub set-behind : (n j : ℕ) (f : ℕ → List ℕ → List ℕ) (b : Board) (r : List ℕ) → n ≤ j → on_rows 0 n f (set b j r) ≡ set (on_rows 0 n f b) j r
unfolding on_rows
set-behind n j f [] r h = refl
set-behind zero zero f (row ∷ b) r h = refl
set-behind zero (suc j) f (row ∷ b) r h = refl
set-behind (suc n) zero f (row ∷ b) r h = absurd (omega arith)
set-behind (suc n) (suc j) f (row ∷ b) r h = ap (λ (l : Board). f 0 row ∷ l) (set-behind n j (λ k. f (suc k)) b r (omega arith))

pub rows-flow : {f : ℕ → List ℕ → List ℕ} (from n : ℕ) → Flow f → Flow (λ d. on_rows from n (λ _. f d))
unfolding on_rows
rows-flow {f} from n w = record { still = go-still from n; more = go-more from n }
  where
    go-still : (from n : ℕ) (b : Board) → on_rows from n (λ _. f 0) b ≡ b
    go-still from n [] = refl
    go-still zero zero (row ∷ b) = refl
    go-still zero (suc n) (row ∷ b) = rw (w.still row, go-still zero n b)
    go-still (suc from) n (row ∷ b) = ap (λ (l : Board). row ∷ l) (go-still from n b)

    go-more : (from n d : ℕ) (b : Board) → on_rows from n (λ _. f 1) (on_rows from n (λ _. f d) b) ≡ on_rows from n (λ _. f (suc d)) b
    go-more from n d [] = refl
    go-more zero zero d (row ∷ b) = refl
    go-more zero (suc n) d (row ∷ b) = rw (w.more d row, go-more zero n d b)
    go-more (suc from) n d (row ∷ b) = ap (λ (l : Board). row ∷ l) (go-more from n d b)
