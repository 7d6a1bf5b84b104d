-- A reply's content written behind the header's place, and sealed; and what gives no reply.
use mathlib.Core.Path.{◌≡◌, refl, ap, sym, ◌∙◌}
use mathlib.Core.Bool.{false}
use mathlib.Core.List.{List, [], ◌∷◌, ◌++◌, append-nil}
use Prim.Native.Nat.{ℕ, ◌+◌, ◌-◌, ◌≤◌}
use native.Mathlib.Omega.{arith}
use borrow.Author.Tests.{ne_eqb}
use lib.Dec.{eqb}
use lib.ListN.{length, take, drop, length-drop, drop_of_length-le}
use lib.Seq.{take_all}
use Rattle.laws.specs.Put.{put}
use Rattle.laws.proofs.Put.{put-part, put-none, length-put}
use Rattle.frames.specs.Seal.{frame_of, seal_end}
use Rattle.frames.proofs.Sealing.{seal-yes, seal-frame}
use Rattle.rows.specs.Places.{Board}
use Rattle.answers.specs.declared.Served.{Served}
use Rattle.answers.specs.Calls.{Did, sealing, given, sealed_reply, sealed_served, Gives, Does}

-- ---- the part behind the header, lent to a writer and given back

part-rest : (a : ℕ) (l : List ℕ) → take (length l - a) (drop a l) ≡ drop a l
part-rest a l = take_all (length l - a) (drop a l) (omega (arith, length-drop a l))

pub part-long : (a : ℕ) (l : List ℕ) → length (take (length l - a) (drop a l)) ≡ length l - a
part-long a l = ap length (part-rest a l) ∙ length-drop a l

pub given_back : (a : ℕ) (vs l out : List ℕ) → out ≡ put 0 vs (take (length l - a) (drop a l)) → take a l ++ (out ++ drop (length l - a) (drop a l)) ≡
    put a vs l
given_back a vs l out e =
    let z : drop (length l - a) (drop a l) ≡ [] = drop_of_length-le (drop a l) {i = length l - a} (omega (arith, length-drop a l)) in
    rw (z, append-nil, e, part-rest a l) (put-part a vs l)

-- ---- the header before it

sealed-none : (d : Did) (q : Board) (l l' l'' : List ℕ) (s r : Served) → q ≡ d.board → d.reply ≡ [] → s ≡ given d → l' ≡ put 5 d.reply l
    → (r ≡ sealed_served s l') × (l'' ≡ sealed_reply s.len l') → Does (sealing d) q l l'' r
sealed-none d q l l' l'' s r k e g b f =
    record {
      board = k;
      gives = f.0 ∙ rw (g, e);
      leaves = f.1 ∙ rw (g, e, b, e, put-none 5 l) (sym (put-none 0 l));
    }

sealed-some : (d : Did) (q : Board) (x : ℕ) (xs l l' l'' : List ℕ) (s r : Served) → 4096 ≤ length l → length (x ∷ xs) ≤ 4091 → q ≡ d.board → d.reply ≡ x ∷ xs
    → s ≡ given d
    → l' ≡ put 5 d.reply l → (r ≡ sealed_served s l') × (l'' ≡ sealed_reply s.len l') → Does (sealing d) q l l'' r
sealed-some d q x xs l l' l'' s r room short k e g b f =
    let vs : List ℕ = x ∷ xs in
    let n : eqb (length vs) 0 ≡ false = ne_eqb (length vs) 0 (λ q. omega arith) in
    let h : length vs + 5 ≤ length (put 5 vs l) = omega (arith, length-put 5 vs l) in
    let end : seal_end (put 5 vs l) (length vs) ≡ length (frame_of vs) = sym (seal-yes (put 5 vs l) (length vs) (omega arith) h).0 ∙ omega arith in
    record {
      board = k;
      gives = f.0 ∙ rw (g, e, n, b, e, end);
      leaves = f.1 ∙ rw (g, e, n, b, e) (seal-frame l vs (omega arith) (omega arith));
    }

-- what was done goes out as it says
pub sealed-does : (d : Did) (q : Board) (l l' l'' : List ℕ) (s r : Served) → 4096 ≤ length l → length d.reply ≤ 4091 → q ≡ d.board → s ≡ given d
    → l' ≡ put 5 d.reply l
    → (r ≡ sealed_served s l') × (l'' ≡ sealed_reply s.len l') → Does (sealing d) q l l'' r
sealed-does d q l l' l'' s r room short k g b f = go d.reply refl short
  where
    go : (vs : List ℕ) → d.reply ≡ vs → length d.reply ≤ 4091 → Does (sealing d) q l l'' r
    go [] e h = sealed-none d q l l' l'' s r k e g b f
    go (x ∷ xs) e h = sealed-some d q x xs l l' l'' s r room (rw e at h) k e g b f

-- ---- no reply

-- served with no reply
pub gives : {d : Did} {b : Board} {r : Served} → b ≡ d.board → r ≡ given d → Gives d b r
gives k g = record { board = k; gives = g }

pub silent : {d : Did} {b : Board} {o : List ℕ} {r : Served} → d.reply ≡ [] → b ≡ d.board → r ≡ given d → Does d b o o r
silent {d} {o = o} e k g = record { board = k; gives = g; leaves = rw e (sym (put-none 0 o)) }

pub quiet : {d : Did} {b : Board} {o : List ℕ} {r : Served} → d.reply ≡ [] → Gives d b r → Does d b o o r
quiet e g = silent e g.board g.gives
