-- Laws of cutting: reading byte by byte cuts the same messages as cutting off the front.
use mathlib.Core.Path.{◌≡◌, refl, sym, ◌∙◌, ap}
use mathlib.Core.Bool.{Bool, true, false, cond, false≢true}
use mathlib.Core.List.{List, [], ◌∷◌, ◌++◌, append-nil, append_assoc}
use Prim.Native.Nat.{ℕ, zero, suc, ◌+◌, ◌≤◌, ◌<◌}
use native.Mathlib.Omega.{arith}
use native.Mathlib.Nat.{le_refl}
use borrow.Author.Tests.{leb-true, leb-false, le-leb}
use lib.Dec.{eqb, leb}
use lib.ListN.{length, get_or, drop, length-append, length-drop}
use lib.Seq.{drop-append_seam, take_at, drop_at, append_snoc}
use Rattle.steps.specs.Cut.{need, whole, cuts, messages, joined, rest}

-- the bytes read so far of a message, and one more
abbrev pub more : List ℕ → ℕ → List ℕ
more r b = r ++ b ∷ []

-- the messages that end among the bytes to come, and what is then left unfinished
abbrev pub inc : List ℕ → List ℕ → List (List ℕ)
inc r [] = []
inc r (b ∷ bs) = cond (whole (more r b)) (more r b ∷ inc [] bs) (inc (more r b) bs)

abbrev pub left : List ℕ → List ℕ → List ℕ
left r [] = r
left r (b ∷ bs) = cond (whole (more r b)) (left [] bs) (left (more r b) bs)

pub need-pos : (bs : List ℕ) → 1 ≤ need bs
unfolding need
need-pos bs = go (eqb (get_or bs 0 0) 1) (omega arith)
  where
    go : (t : Bool) {u : ℕ} → 1 ≤ u → 1 ≤ cond t u 1
    go true h = h
    go false h = le_refl 1

grows : (t : Bool) {u v : ℕ} → u ≤ v → cond t u 1 ≤ cond t v 1
grows true h = h
grows false h = le_refl 1

pub need-grows : (r x : List ℕ) → need r ≤ need (r ++ x)
unfolding need
need-grows [] x = need-pos x
need-grows (a ∷ []) x = grows (eqb a 1) (omega arith)
need-grows (a ∷ b ∷ []) x = grows (eqb a 1) (omega arith)
need-grows (a ∷ b ∷ c ∷ l) x = le_refl (need (a ∷ b ∷ c ∷ l))

short : (t : Bool) (u v n : ℕ) → leb (cond t u 1) n ≡ true → n < u → cond t v 1 ≡ cond t u 1
short true u v n h q = absurd (omega (arith, leb-true u n h))
short false u v n h q = refl

-- a whole message's length is settled
pub need-settled : (r x : List ℕ) → whole r ≡ true → need (r ++ x) ≡ need r
unfolding need whole
need-settled [] x h = absurd (false≢true h)
need-settled (a ∷ []) x h = short (eqb a 1) _ _ 1 h (omega arith)
need-settled (a ∷ b ∷ []) x h = short (eqb a 1) _ _ 2 h (omega arith)
need-settled (a ∷ b ∷ c ∷ l) x h = refl

cuts-none : (n : ℕ) (bs : List ℕ) → whole bs ≡ false → cuts n bs ≡ []
unfolding cuts
cuts-none zero bs h = refl
cuts-none (suc n) bs h = rw h

pub no_bytes : whole [] ≡ false
unfolding whole need
no_bytes = refl

pub whole-need : (bs : List ℕ) → whole bs ≡ true → need bs ≤ length bs
unfolding whole
whole-need bs h = leb-true (need bs) (length bs) h

pub part-need : (bs : List ℕ) → whole bs ≡ false → length bs < need bs
unfolding whole
part-need bs h = leb-false (need bs) (length bs) h

le-leb-whole : (bs : List ℕ) → need bs ≤ length bs → whole bs ≡ true
unfolding whole
le-leb-whole bs h = le-leb (need bs) (length bs) h

cuts-again : (m n : ℕ) (bs : List ℕ) → length bs ≤ suc m → length bs ≤ suc n
    → ((l : List ℕ) → length l ≤ m → length l ≤ n → cuts m l ≡ cuts n l) → (t : Bool) → whole bs ≡ t → cuts (suc m) bs ≡ cuts (suc n) bs
unfolding cuts
cuts-again m n bs p q ih false e = cuts-none (suc m) bs e ∙ sym (cuts-none (suc n) bs e)
cuts-again m n bs p q ih true e =
    let shorter : length (drop (need bs) bs) + 1 ≤ length bs = omega (arith, need-pos bs, whole-need bs e, length-drop (need bs) bs) in
    rw (e, ih (drop (need bs) bs) (omega arith) (omega arith))

no_length : (bs : List ℕ) → length bs ≤ 0 → whole bs ≡ false
no_length [] p = no_bytes
no_length (a ∷ l) p = absurd (omega arith)

cuts-enough : (m n : ℕ) (bs : List ℕ) → length bs ≤ m → length bs ≤ n → cuts m bs ≡ cuts n bs
cuts-enough zero n bs p q = cuts-none zero bs (no_length bs p) ∙ sym (cuts-none n bs (no_length bs p))
cuts-enough (suc m) zero bs p q = cuts-none (suc m) bs (no_length bs q) ∙ sym (cuts-none zero bs (no_length bs q))
cuts-enough (suc m) (suc n) bs p q = cuts-again m n bs p q (cuts-enough m n) (whole bs) refl

pub messages-none : (bs : List ℕ) → whole bs ≡ false → messages bs ≡ []
unfolding messages
messages-none bs h = cuts-none (length bs) bs h

-- a message that is exactly whole is the first one cut
pub messages-whole : (m bs : List ℕ) → whole m ≡ true → need m ≡ length m → messages (m ++ bs) ≡ m ∷ messages bs
unfolding messages cuts
messages-whole [] bs h e = absurd (false≢true (sym no_bytes ∙ h))
messages-whole (a ∷ l) bs h e =
    let n : need ((a ∷ l) ++ bs) ≡ length (a ∷ l) = need-settled (a ∷ l) bs h ∙ e in
    let w : whole ((a ∷ l) ++ bs) ≡ true = le-leb-whole ((a ∷ l) ++ bs) (omega (arith, n, length-append (a ∷ l) bs)) in
    rw (w, n, take_at (a ∷ l) bs (length (a ∷ l)) refl, drop_at (a ∷ l) bs (length (a ∷ l)) refl)
    (ap (λ (x : List (List ℕ)). (a ∷ l) ∷ x) (cuts-enough (length (l ++ bs)) (length bs) bs (omega (arith, length-append l bs)) (le_refl (length bs))))

-- the byte that makes a message whole is its last
pub just-whole : (r : List ℕ) (b : ℕ) → whole r ≡ false → whole (more r b) ≡ true → need (more r b) ≡ length (more r b)
just-whole r b h e = omega (arith, part-need r h, whole-need (more r b) e, need-grows r (b ∷ []), length-append r (b ∷ []))

-- reading on byte by byte
pub messages-inc : (r bs : List ℕ) → whole r ≡ false → messages (r ++ bs) ≡ inc r bs
messages-inc r [] h = rw append-nil (messages-none r h)
messages-inc r (b ∷ bs) h = go (whole (more r b)) refl (messages-inc [] bs no_bytes) (messages-inc (more r b) bs)
  where
    go : (t : Bool) → whole (more r b) ≡ t → messages bs ≡ inc [] bs → (whole (more r b) ≡ false → messages (more r b ++ bs) ≡ inc (more r b) bs)
        → messages (r ++ b ∷ bs) ≡ inc r (b ∷ bs)
    go true e f g = rw (e, ← append_snoc r b bs) (messages-whole (more r b) bs e (just-whole r b h e) ∙ ap (λ (x : List (List ℕ)). more r b ∷ x) f)
    go false e f g = rw (e, ← append_snoc r b bs) (g e)

pub inc-append : (r xs ys : List ℕ) → inc r (xs ++ ys) ≡ inc r xs ++ inc (left r xs) ys
inc-append r [] ys = refl
inc-append r (b ∷ xs) ys = go (whole (more r b)) (inc-append [] xs ys) (inc-append (more r b) xs ys)
  where
    go : (t : Bool) → inc [] (xs ++ ys) ≡ inc [] xs ++ inc (left [] xs) ys → inc (more r b) (xs ++ ys) ≡ inc (more r b) xs ++ inc (left (more r b) xs) ys
        → cond t (more r b ∷ inc [] (xs ++ ys)) (inc (more r b) (xs ++ ys))
        ≡ cond t (more r b ∷ inc [] xs) (inc (more r b) xs) ++ inc (cond t (left [] xs) (left (more r b) xs)) ys
    go true f g = ap (λ (x : List (List ℕ)). more r b ∷ x) f
    go false f g = g

pub left-append : (r xs ys : List ℕ) → left r (xs ++ ys) ≡ left (left r xs) ys
left-append r [] ys = refl
left-append r (b ∷ xs) ys = go (whole (more r b)) (left-append [] xs ys) (left-append (more r b) xs ys)
  where
    go : (t : Bool) → left [] (xs ++ ys) ≡ left (left [] xs) ys → left (more r b) (xs ++ ys) ≡ left (left (more r b) xs) ys
        → cond t (left [] (xs ++ ys)) (left (more r b) (xs ++ ys)) ≡ left (cond t (left [] xs) (left (more r b) xs)) ys
    go true f g = f
    go false f g = g

-- what is left is never whole
pub left-part : (r xs : List ℕ) → whole r ≡ false → whole (left r xs) ≡ false
left-part r [] h = h
left-part r (b ∷ xs) h = go (whole (more r b)) refl (left-part [] xs no_bytes) (left-part (more r b) xs)
  where
    go : (t : Bool) → whole (more r b) ≡ t → whole (left [] xs) ≡ false → (whole (more r b) ≡ false → whole (left (more r b) xs) ≡ false)
        → whole (cond t (left [] xs) (left (more r b) xs)) ≡ false
    go true e f g = f
    go false e f g = g e

-- the messages that end with more bytes are those read on from what was left
pub new-messages : (j t : List ℕ) → drop (length (messages j)) (messages (j ++ t)) ≡ inc (left [] j) t
new-messages j t =
    rw (messages-inc [] (j ++ t) no_bytes, messages-inc [] j no_bytes, inc-append [] j t) (drop-append_seam (inc [] j) (inc (left [] j) t))

-- taking more bytes adds messages behind those there were: none is lost or changed
pub nothing-lost : (j t : List ℕ) → messages (j ++ t) ≡ messages j ++ drop (length (messages j)) (messages (j ++ t))
nothing-lost j t = rw (new-messages j t, messages-inc [] (j ++ t) no_bytes, messages-inc [] j no_bytes, inc-append [] j t)

-- WHAT CUTTING IS: the messages and what is left are the bytes, each message is exactly whole, and what is left is not
abbrev pub Each-whole : List (List ℕ) → Type 0
Each-whole [] = Unit {0}
Each-whole (m ∷ ms) = (need m ≡ length m) × Each-whole ms

inc-joined : (r bs : List ℕ) → joined (inc r bs) ++ left r bs ≡ r ++ bs
inc-joined r [] = sym (append-nil r)
inc-joined r (b ∷ bs) = go (whole (more r b)) (inc-joined [] bs) (inc-joined (more r b) bs) ∙ append_snoc r b bs
  where
    go : (t : Bool) → joined (inc [] bs) ++ left [] bs ≡ bs → joined (inc (more r b) bs) ++ left (more r b) bs ≡ more r b ++ bs
        → joined (cond t (more r b ∷ inc [] bs) (inc (more r b) bs)) ++ cond t (left [] bs) (left (more r b) bs) ≡ more r b ++ bs
    go true f g = append_assoc (more r b) (joined (inc [] bs)) (left [] bs) ∙ ap (λ (l : List ℕ). more r b ++ l) f
    go false f g = g

inc-whole : (r bs : List ℕ) → whole r ≡ false → Each-whole (inc r bs)
inc-whole r [] h = tt
inc-whole r (b ∷ bs) h = go (whole (more r b)) refl (inc-whole [] bs no_bytes) (inc-whole (more r b) bs)
  where
    go : (t : Bool) → whole (more r b) ≡ t → Each-whole (inc [] bs) → (whole (more r b) ≡ false → Each-whole (inc (more r b) bs))
        → Each-whole (cond t (more r b ∷ inc [] bs) (inc (more r b) bs))
    go true e f g = (just-whole r b h e, f)
    go false e f g = g e

pub record Cut-up (bs : List ℕ) : Type 0 where
  pub nothing-gone : joined (messages bs) ++ rest bs ≡ bs
  pub each-whole : Each-whole (messages bs)
  pub rest_part : whole (rest bs) ≡ false

-- what is left unfinished are the bytes behind the last message
pub rest-left : (bs : List ℕ) → rest bs ≡ left [] bs
unfolding rest
rest-left bs =
    let e : joined (inc [] bs) ++ left [] bs ≡ bs = inc-joined [] bs in
    rw (messages-inc [] bs no_bytes) (ap (drop (length (joined (inc [] bs)))) (sym e) ∙ drop-append_seam (joined (inc [] bs)) (left [] bs))

pub cut_up : (bs : List ℕ) → Cut-up bs
cut_up bs =
    record {
      nothing-gone = rw (messages-inc [] bs no_bytes, rest-left bs) (inc-joined [] bs);
      each-whole = rw (messages-inc [] bs no_bytes) (inc-whole [] bs no_bytes);
      rest_part = rw (rest-left bs) (left-part [] bs no_bytes);
    }
