-- 02, M-103: strict connections, over the definitions that the entry points' contracts cite.
--     unchecked-passes     on a connection that is not strict a frame with 0xFFFF passes to its content, whatever its true checksum is
--     strict-checked       on a strict connection a frame passes where its checksum is the true one, 0xFFFF or not, and else is refused with 7
--     strictness-opened    a connection that an opening opened is as strict as the opening said
--     strictness-kept      whatever call comes, a connection that was open and still is stays as strict as it was
use mathlib.Core.Path.{◌≡◌, refl, sym, ap, ◌∙◌}
use mathlib.Core.Bool.{Bool, true, false, true≢false, cond}
use mathlib.Core.List.{List, [], ◌∷◌}
use mathlib.Core.Option.{none, some}
use Prim.Native.Nat.{ℕ, zero, suc}
use borrow.Author.Tests.{eqb-true}
use lib.Dec.{eqb}
use lib.ListN.{length, set}
use Rattle.laws.proofs.Tests.{by_cases}
use Rattle.crc.specs.Crc.{crc_of}
use Rattle.steps.specs.Cut.{frame}
use Rattle.framing.specs.Reading.{got_of}
use Rattle.records.specs.declared.Line.{Line}
use Rattle.records.specs.Records.{is_on, line_in, line_words, shut_line}
use Rattle.rows.specs.Places.{Board, is_connection, row_at, line_at, put_line, line_place}
use Rattle.records.proofs.Views.{line-again}
use Rattle.modules.specs.Modules.{has_module}
use Rattle.connections.specs.Lines.{opened_line, is_open, is_strict, connected}
use Rattle.answers.specs.Calls.{refused}
use Rattle.serving.specs.Serving.{served_content, served_message}
use Rattle.pieces.specs.Pieces.{fed}
use Rattle.demand.specs.Demand.{Call, bytes, other}
use Rattle.register.specs.Box.{Event, level, pass, connect, close, collect, fill, empty, refusal_of, served, Held, tables_of, effect_of, box_call}
use Rattle.register.proofs.Cases.{connect-cases}
use Rattle.register.proofs.Touching.{fill-event, empty-event, as-strict, unmarked-settled, level-event, pass-event, collect-touches}
use Rattle.register.proofs.BoxCalls.{feeds-effect, bytes-touches, connect-apart, close-apart, close-shuts}

abbrev strict_line : Line → Bool
strict_line l = is_on l.strict

-- NOT STRICT, UNCHECKED: 01, Frame, 5, as before
pub unchecked-passes : (c : ℕ) (s : List ℕ) (b : Board) → is_strict c b ≡ false → served_message c (frame 0xFFFF s) b ≡ served_content c s b
unfolding served_message
unchecked-passes c s b lax = rw lax

-- STRICT, CHECKED. A whole frame on a strict connection: its checksum alone decides
frame-checked : (c sum : ℕ) (s : List ℕ) (b : Board) → is_strict c b ≡ true
    → served_message c (frame sum s) b ≡ cond (eqb (crc_of s) sum) (served_content c s b) (refused 7 b)
unfolding served_message
frame-checked c sum s b strict = by_cases (eqb (crc_of s) sum) (λ same. rw (strict, same)) (λ other. rw (strict, other))

-- a piece at whose end such a frame stands, where the call itself is not refused
pub strict-checked : (x : Held) (c room : ℕ) (piece : List ℕ) (sum : ℕ) (content : List ℕ) → refusal_of (tables_of x) c room ≡ none
    → is_strict c x.board ≡ true
    → got_of (fed c piece x.halves x.rooms).room (fed c piece x.halves x.rooms).fed.outcome ≡ some (frame sum content)
    → (effect_of x (bytes c room piece)).did ≡ cond (eqb (crc_of content) sum) (served_content c content x.board) (refused 7 x.board)
strict-checked x c room piece sum content ready strict ended =
    rw (feeds-effect c room piece (tables_of x) x.halves x.rooms ready, ended) (frame-checked c sum content x.board strict)

-- STRICTNESS OPENED. Where a store opened a connection, the connection is the one that was stored
stored : (b : Board) (n : ℕ) (l : Line) → (line_in (row_at n b)).is_open ≡ false → (line_in (row_at n (set b n (line_words l)))).is_open ≡ true
    → line_in (row_at n (set b n (line_words l))) ≡ l
stored [] n l shut opens = absurd (true≢false (sym opens ∙ shut))
stored (row ∷ b) zero l shut opens = line-again l
stored (row ∷ b) (suc n) l shut opens = stored b n l shut opens

line-stored : (c : ℕ) (l : Line) (b : Board) → is_open c b ≡ false → is_open c (put_line c l b) ≡ true → line_at c (put_line c l b) ≡ l
unfolding line_at put_line
line-stored c l b = go (is_connection c)
  where
    go : (t : Bool) → (cond t (line_in (row_at (line_place c) b)) shut_line).is_open ≡ false
        → (cond t (line_in (row_at (line_place c) (cond t (set b (line_place c) (line_words l)) b))) shut_line).is_open ≡ true
        → cond t (line_in (row_at (line_place c) (cond t (set b (line_place c) (line_words l)) b))) shut_line ≡ l
    go true shut opens = stored b (line_place c) l shut opens
    go false shut opens = absurd (true≢false (sym opens))

pub strictness-opened : (x : Held) (c rank strict : ℕ) → is_open c x.board ≡ false
    → is_open c (box_call x (other (connect c rank strict))).0.board ≡ true → is_strict c (box_call x (other (connect c rank strict))).0.board ≡ is_on strict
unfolding opened_line
strictness-opened x c rank strict shut =
    connect-cases c b rank strict (λ d. is_open c d.board ≡ true → is_strict c d.board ≡ is_on strict) none-opened none-opened none-opened
    (λ u opens. ap strict_line (line-stored c (opened_line rank strict (has_module b)) b shut opens))
  where
    b : Board
    b = x.board

    none-opened : is_open c x.board ≡ true → is_strict c x.board ≡ is_on strict
    none-opened opens = absurd (true≢false (sym opens ∙ shut))

-- STRICTNESS KEPT. An opening of a connection that is open changes nothing
connect-open : (c rank strict : ℕ) (b : Board) → is_open c b ≡ true → (connected c rank strict b).board ≡ b
connect-open c rank strict b u =
    connect-cases c b rank strict (λ d. d.board ≡ b) refl refl refl (λ shut. absurd (true≢false (sym u ∙ shut)))

event-keeps : (x : Held) (e : Event) (c : ℕ) → is_open c x.board ≡ true → is_open c (box_call x (other e)).0.board ≡ true
    → is_strict c (box_call x (other e)).0.board ≡ is_strict c x.board
event-keeps x (level k v) c u w = as-strict (unmarked-settled (level-event k v x.board)) c
event-keeps x (pass d) c u w = as-strict (unmarked-settled (pass-event d x.row x.board)) c
event-keeps x (connect d rank strict) c u w =
    by_cases (eqb c d)
    (λ same. ap (is_strict c) (connect-open d rank strict x.board (rw (eqb-true c d same) at u)))
    (λ apart. ap strict_line (connect-apart d rank strict x.board c apart))
event-keeps x (close d) c u w =
    by_cases (eqb c d)
    (λ same. absurd (true≢false (sym (rw (eqb-true c d same) at w) ∙ close-shuts d x.board)))
    (λ apart. ap strict_line (close-apart d x.board c apart))
event-keeps x (collect d room) c u w = as-strict (collect-touches d room x.board).as-opened c
event-keeps x (fill place) c u w = as-strict (unmarked-settled (fill-event (length x.row) place x.board)) c
event-keeps x (empty place) c u w = as-strict (unmarked-settled (empty-event (length x.row) place x.board)) c

pub strictness-kept : (x : Held) (k : Call served) (c : ℕ) → is_open c x.board ≡ true → is_open c (box_call x k).0.board ≡ true
    → is_strict c (box_call x k).0.board ≡ is_strict c x.board
strictness-kept x (bytes d room piece) c u w = as-strict (bytes-touches d room (length x.row) piece x.board x.halves x.rooms).as-opened c
strictness-kept x (other e) c u w = event-keeps x e c u w
