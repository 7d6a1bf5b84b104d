-- `orders::entry_at`: each field stands behind the one before it.
use mathlib.Core.Path.{◌≡◌, ap, ◌∙◌}
use Prim.Native.Nat.{ℕ, ◌+◌}
use native.Mathlib.Omega.{arith}
use Rattle.words.specs.Words.{number_at}
use Rattle.layouts.specs.Fields.{onward_of}
use Rattle.layouts.proofs.Fields.{field-at, past-onward}
use Rattle.orders.proofs.entry_at.Goals as goal

pub returns : goal.returns
returns c =
    let s = c.args.content.now in
    let at = c.args.at in
    let here : at + 0 ≡ at = omega arith in
    let front = c.new-reader.ensures in
    let two : c.u64.new.self ≡ (s, onward_of s at 8) = rw front at c.u64.ensures.rest ∙ past-onward s at 0 8 in
    let three : c.u16.new.self ≡ (s, onward_of s at 10) = rw two at c.u16.ensures.rest ∙ past-onward s at 8 2 in
    let four : c.u8.new.self ≡ (s, onward_of s at 11) = rw three at c.u8.ensures.rest ∙ past-onward s at 10 1 in
    let id : c.unwrap_or-id.result ≡ number_at s at 8 =
    rw (c.unwrap_or-id.ensures, c.u64.ensures.value, front) (field-at s at 0 8 ∙ ap (λ (p : ℕ). number_at s p 8) here) in
    let size : c.unwrap_or-size.result ≡ number_at s (at + 8) 2 = rw (c.unwrap_or-size.ensures, c.u16.ensures.value, two) (field-at s at 8 2) in
    let flags : c.unwrap_or-flags.result ≡ number_at s (at + 10) 1 = rw (c.unwrap_or-flags.ensures, c.u8.ensures.value, three) (field-at s at 10 1) in
    let state : c.unwrap_or-state.result ≡ number_at s (at + 11) 1 =
    rw (c.unwrap_or-state.ensures, c.u8-2.ensures.value, c.ahead.ensures, four) (field-at s at 11 1) in
    let count : c.unwrap_or-count.result ≡ number_at s (at + 11) 4 = rw (c.unwrap_or-count.ensures, c.u32.ensures.value, four) (field-at s at 11 4) in
    let next : c.min-next.result ≡ onward_of s at (10 + number_at s (at + 8) 2) = omega arith in
    simp (id, size, flags, count, state, next)
