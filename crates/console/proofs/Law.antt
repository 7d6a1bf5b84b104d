-- THE LAW OF THE CONSOLE: however the reads cut the input, what is printed is what 01 says of its lines, one answer for each, in their order.
--     lines-kept          byte by byte, the lines of the input, each cut to its first 2,059 characters, are fed
--     cut-same            a line cut so does what the whole line does
--     prints-every-line   both, for any pieces
use mathlib.Core.Path.{◌≡◌, refl, sym, ap, ◌∙◌}
use mathlib.Core.Bool.{false}
use mathlib.Core.List.{List, [], ◌∷◌, ◌++◌, map, append-nil, append_assoc}
use Prim.Native.Nat.{ℕ, ◌+◌, ◌<◌, min}
use native.Mathlib.Omega.{arith}
use native.Mathlib.Numerals.{add-one}
use borrow.Author.Tests.{leb-true, leb-false, ltb-true, ltb-false, eq-eqb, ne_eqb}
use lib.Dec.{eqb, leb, ltb}
use lib.ListN.{length, set, take, length-append, length-set, length-take}
use lib.Seq.{take_all, take-append-le, take-suc-set}
use Rattle.laws.proofs.Tests.{by_cases}
use Rattle.steps.specs.Cut.{joined}
use Rattle.rows.specs.Places.{Board}
use Rattle.halves.specs.Halves.{Halves}
use Rattle.pieces.specs.Effects.{Effect}
use Rattle.hexadecimal.specs.Digits.{feeds, parsed}
use Rattle.console.specs.Lines.{on_first, lines_of, started, started_halves, line_call, line_halves, line_rooms, shown, printed}
use Rattle.console.specs.Console.{Held, held, line_held, ended, kept, step, says, run, said, said_at_end, said_of}
use Rattle.hexadecimal.proofs.Reading.{feeds-short, parsed-none}

-- ---- pieces

run-append : (h : Held) (xs ys : List ℕ) → run h (xs ++ ys) ≡ run (run h xs) ys
unfolding run
run-append h [] ys = refl
run-append h (x ∷ xs) ys = run-append (step h x) xs ys

said-append : (h : Held) (xs ys : List ℕ) → said h (xs ++ ys) ≡ said h xs ++ said (run h xs) ys
unfolding run said
said-append h [] ys = refl
said-append h (x ∷ xs) ys =
    ap (λ (l : List ℕ). says h x ++ l) (said-append (step h x) xs ys)
    ∙ sym (append_assoc (says h x) (said (step h x) xs) (said (run (step h x) xs) ys))

-- pieces say what their joined bytes say
pub pieces-joined : (h : Held) (ps : List (List ℕ)) → said_of h ps ≡ said h (joined ps) ++ said_at_end (run h (joined ps))
unfolding said_of run said
pieces-joined h [] = refl
pieces-joined h (p ∷ ps) =
    ap (λ (l : List ℕ). said h p ++ l) (pieces-joined (run h p) ps)
    ∙ rw (said-append h p (joined ps), run-append h p (joined ps))
    (sym (append_assoc (said h p) (said (run h p) (joined ps)) (said_at_end (run (run h p) (joined ps)))))

-- ---- lines

-- the characters of a line that began before, in front of the lines of what follows
abbrev pub onto : List ℕ → List (List ℕ) → List (List ℕ)
onto [] ls = ls
onto (c ∷ cs) ls = on_first c (onto cs ls)

onto-line : (cs l : List ℕ) (ls : List (List ℕ)) → onto cs (l ∷ ls) ≡ (cs ++ l) ∷ ls
unfolding on_first
onto-line [] l ls = refl
onto-line (c ∷ cs) l ls = ap (on_first c) (onto-line cs l ls)

onto-none : (c : ℕ) (cs : List ℕ) → onto (c ∷ cs) [] ≡ (c ∷ cs) ∷ []
unfolding on_first
onto-none c [] = refl
onto-none c (d ∷ cs) = ap (on_first c) (onto-none d cs)

onto-snoc : (cs : List ℕ) (b : ℕ) (ls : List (List ℕ)) → onto (cs ++ (b ∷ [])) ls ≡ onto cs (on_first b ls)
onto-snoc [] b ls = refl
onto-snoc (c ∷ cs) b ls = ap (on_first c) (onto-snoc cs b ls)

abbrev pub cut : List ℕ → List ℕ
cut l = take 2059 l

-- cs are the characters of the line so far: the store holds as many of them as it can
pub record Reads (h : Held) (cs : List ℕ) : Type 0 where
  pub size : length h.line ≡ 2059
  pub count : h.used ≡ min (length cs) 2059
  pub chars : take h.used h.line ≡ cut cs

reads-ended : (h : Held) (cs : List ℕ) → Reads h cs → Reads (ended h) []
unfolding ended
reads-ended h cs r = record { size = r.size; count = refl; chars = refl }

reads_kept : (h : Held) (cs : List ℕ) (b : ℕ) → Reads h cs → Reads (kept b h) (cs ++ (b ∷ []))
unfolding kept
reads_kept h cs b r =
    let more = length-append cs (b ∷ []) in
    by_cases (ltb h.used 2059)
    (λ t.
    let below = ltb-true h.used 2059 t in
    let whole : cut cs ≡ cs = take_all 2059 cs (omega (arith, r.count)) in
    let chars' : take (h.used + 1) (set h.line h.used b) ≡ cut (cs ++ (b ∷ [])) =
    rw (add-one, take-suc-set h.line h.used b (omega (arith, r.size)), r.chars, whole)
    (sym (take_all 2059 (cs ++ (b ∷ [])) (omega (arith, r.count)))) in
    rw t (record { size = length-set h.line h.used b ∙ r.size; count = omega (arith, r.count); chars = chars' }))
    (λ f.
    let full = ltb-false h.used 2059 f in
    rw f (record { size = r.size; count = omega (arith, r.count); chars = r.chars ∙ sym (take-append-le 2059 cs (b ∷ []) (omega (arith, r.count))) }))

-- what is printed of lines that come now
abbrev pub printed_from : Held → List (List ℕ) → List ℕ
printed_from h ls = printed h.board h.halves h.rooms ls

-- a character that is kept changes nothing of it
kept-printed : (h : Held) (b : ℕ) (ls : List (List ℕ)) → printed_from (kept b h) ls ≡ printed_from h ls
unfolding kept
kept-printed h b ls = by_cases (ltb h.used 2059) (λ t. rw t) (λ f. rw f)

-- the last line, if it has no newline
at-end : (h : Held) (cs : List ℕ) → Reads h cs → said_at_end h ≡ printed_from h (map cut (onto cs []))
unfolding said_at_end printed
at-end h [] r = rw (eq-eqb h.used 0 r.count)
at-end h (c ∷ cs) r =
    let some : h.used ≡ 0 → ⊥ = λ z. omega (arith, r.count) in
    rw (onto-none c cs, ne_eqb h.used 0 some, r.chars) (sym (append-nil (shown (line_call (cut (c ∷ cs)) h.board h.halves h.rooms))))

-- a newline: the line is fed, and the next begins
line-said : (h : Held) (cs next : List ℕ) (ls : List (List ℕ)) → Reads h cs → next ≡ printed_from (ended h) ls
    → shown (line_held h) ++ next ≡ printed_from h (cut cs ∷ ls)
unfolding printed ended
line-said h cs next ls r e = rw (← r.chars, e)

-- BYTE BY BYTE: what is said of joined bytes is what is printed of their lines, each cut to its first 2,059 characters
pub lines-kept : (bs : List ℕ) (h : Held) (cs : List ℕ) → Reads h cs
    → said h bs ++ said_at_end (run h bs) ≡ printed_from h (map cut (onto cs (lines_of bs)))
unfolding said run lines_of step says kept
lines-kept [] h cs r = at-end h cs r
lines-kept (b ∷ bs) h cs r =
    by_cases (eqb b 10)
    (λ t.
    rw (t, onto-line cs [] (lines_of bs), append-nil cs, append_assoc (shown (line_held h)) (said (ended h) bs) (said_at_end (run (ended h) bs)))
    (line-said h cs (said (ended h) bs ++ said_at_end (run (ended h) bs)) (map cut (lines_of bs)) r (lines-kept bs (ended h) [] (reads-ended h cs r))))
    (λ f. rw (f, ← onto-snoc cs b (lines_of bs)) (lines-kept bs (kept b h) (cs ++ (b ∷ [])) (reads_kept h cs b r) ∙ kept-printed h b _))

-- ---- a line of any length

-- a line that was cut holds what the whole line holds: where it has over 2,058 characters, nothing
parsed-cut : (l : List ℕ) → parsed (cut l) ≡ parsed l
parsed-cut l =
    by_cases (leb (length l) 2058)
    (λ t. ap parsed (take_all 2059 l (omega (arith, leb-true (length l) 2058 t))))
    (λ f.
    let long = leb-false (length l) 2058 f in
    parsed-none (cut l) (too_long (cut l) (omega (arith, length-take 2059 l))) ∙ sym (parsed-none l (too_long l long)))
  where
    too_long : (l : List ℕ) → 2058 < length l → feeds l ≡ false
    too_long l h = by_cases (feeds l) (λ t. absurd (omega (arith, feeds-short l t))) (λ f. f)

pub cut-same : (ls : List (List ℕ)) (b : Board) (hs : Halves) (rooms : List ℕ) → printed b hs rooms (map cut ls) ≡ printed b hs rooms ls
unfolding printed line_call line_halves line_rooms
cut-same [] b hs rooms = refl
cut-same (l ∷ ls) b hs rooms =
    let e : Effect = line_call l b hs rooms in
    rw (parsed-cut l) (ap (λ (x : List ℕ). shown e ++ x) (cut-same ls e.did.board (line_halves l b hs rooms) (line_rooms l b hs rooms)))

-- THE LAW, at the box as it starts, whatever was lent
pub prints-every-line : (halves : Halves) (rooms line reply : List ℕ) (pieces : List (List ℕ)) → length line ≡ 2059
    → said_of (held started (started_halves halves) rooms line 0 reply) pieces ≡ printed started (started_halves halves) rooms (lines_of (joined pieces))
prints-every-line halves rooms line reply pieces size =
    let hs : Halves = started_halves halves in
    let h : Held = held started hs rooms line 0 reply in
    let begun : Reads h [] = record { size = size; count = refl; chars = refl } in
    pieces-joined h pieces ∙ lines-kept (joined pieces) h [] begun ∙ cut-same (lines_of (joined pieces)) started hs rooms
