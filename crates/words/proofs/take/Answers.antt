-- `words::take`: a field that is not there whole, and its loop.
use Rattle.std.proofs.Common.{◌∙◌, ◌≡◌, ◌≤◌, ◌<◌, ◌-◌, sym, ap, List, ℕ, ◌+◌, length, take, drop, length-drop, arith}
use lib.Dec.{lit<}
use native.Mathlib.Nat.{sub-zero, le_refl}
use lib.Seq.{take_all}
use Rattle.words.specs.Words.{value_of}
use Rattle.words.proofs.Laws.{Bytes, took-field, took-end, take-bytes, drop-bytes}
use Rattle.words.proofs.Turns.{took-long, field-grows, field_fits, take-turn, take-done}
use Rattle.words.proofs.take.Goals as goal

-- what follows a place, as a part of the slice
rest-is : (s r : List ℕ) (at : ℕ) → r ≡ take (length s - at) (drop at s) → r ≡ drop at s
rest-is s r at e = e ∙ take_all (length s - at) (drop at s) (rw length-drop (le_refl (length s - at)))

-- and a part of that
part-is : (s r field : List ℕ) (at n : ℕ) → r ≡ drop at s → field ≡ take (n - 0) (drop 0 r) → field ≡ take n (drop at s)
part-is s r field at n e f = f ∙ rw (sub-zero, e)

pub returns-then-n-gt8 : goal.returns-then-n-gt8
returns-then-n-gt8 c = took-long _ _ _ c.if-n-gt8.true

pub returns-in_err-get : goal.returns-in_err-get
returns-in_err-get c =
    let past : length c.args.s.now < c.args.at = omega (arith, c.in_err-get.ensures.lookup) in
    c.from_residual.ensures ∙ sym (took-end _ _ _ (omega arith))

pub returns-in_err-field : goal.returns-in_err-field
returns-in_err-field c =
    let whole = rest-is c.args.s.now _ c.args.at c.in_ok-get.ensures.lookup.0.2 in
    let past : length c.in_ok-get.field-0.now < c.args.n = omega (arith, c.in_err-field.ensures.lookup) in
    c.from_residual-in_err-field.ensures ∙ sym (took-end _ _ _ (omega (arith, ap length whole, length-drop c.args.at c.args.s.now)))

pub overflow_mul-number : goal.overflow_mul-number
overflow_mul-number c =
    let long : length c.in_ok-field.field.now + 0 ≡ c.args.n = c.in_ok-field.ensures.lookup.0.3 in
    let grows = field-grows c.loop-byte.byte-index c.loop-byte.number 0 c.loop-byte.invariant.0 (lit< tt) in
    record { fits = omega (arith, field_fits (c.loop-byte.byte-index + 1) _ (omega arith) grows) }

pub overflow_add-number : goal.overflow_add-number
overflow_add-number c =
    let long : length c.in_ok-field.field.now + 0 ≡ c.args.n = c.in_ok-field.ensures.lookup.0.3 in
    let whole = rest-is c.args.s.now _ c.args.at c.in_ok-get.ensures.lookup.0.2 in
    let part : c.in_ok-field.field.now ≡ take c.args.n (drop c.args.at c.args.s.now) =
    part-is c.args.s.now _ _ c.args.at c.args.n whole c.in_ok-field.ensures.lookup.0.2 in
    let bytes : Bytes (take c.args.n (drop c.args.at c.args.s.now)) = take-bytes _ _ (drop-bytes _ _ (λ i. (c.type_inv.s i).fits)) in
    let byte : c.from.result < 256 = rw (c.from.ensures, part) (bytes c.loop-byte.byte-index) in
    record { fits = field_fits (c.loop-byte.byte-index + 1) _ (omega arith) (field-grows _ _ _ c.loop-byte.invariant.0 byte) }

pub loop-byte-preserved : goal.loop-byte-preserved
loop-byte-preserved c =
    let l = c.loop-byte in
    let whole = rest-is c.args.s.now _ c.args.at c.in_ok-get.ensures.lookup.0.2 in
    let part : c.in_ok-field.field.now ≡ take c.args.n (drop c.args.at c.args.s.now) =
    part-is c.args.s.now _ _ c.args.at c.args.n whole c.in_ok-field.ensures.lookup.0.2 in
    let bytes : Bytes (take c.args.n (drop c.args.at c.args.s.now)) = take-bytes _ _ (drop-bytes _ _ (λ i. (c.type_inv.s i).fits)) in
    let byte : c.from.result < 256 = rw (c.from.ensures, part) (bytes c.loop-byte.byte-index) in (
      field-grows _ _ _ l.invariant.0 byte,
      rw c.from.ensures (sym (take-turn _ _ _ c.loop-byte-test.true) ∙ l.invariant.1),
    )

pub returns : goal.returns
returns c =
    let long : length c.in_ok-field.field.now ≡ c.args.n = omega (arith, c.in_ok-field.ensures.lookup.0.3) in
    let whole = rest-is c.args.s.now _ c.args.at c.in_ok-get.ensures.lookup.0.2 in
    let part : c.in_ok-field.field.now ≡ take c.args.n (drop c.args.at c.args.s.now) =
    part-is c.args.s.now _ _ c.args.at c.args.n whole c.in_ok-field.ensures.lookup.0.2 in
    let all : c.loop-byte.number ≡ value_of c.in_ok-field.field.now = take-done _ _ _ c.loop-byte-test.false c.loop-byte.invariant.1 in
    let there : c.args.at + c.args.n ≤ length c.args.s.now = omega (
      arith,
      ap length whole,
      length-drop c.args.at c.args.s.now,
      c.in_ok-get.ensures.lookup,
      c.in_ok-field.ensures.lookup,
    ) in
    rw (all, long, part) (sym (took-field _ _ _ (omega arith) there))
