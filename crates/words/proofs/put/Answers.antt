-- `words::put`: what a store answers, and its loop.
use Rattle.std.proofs.Common.{◌≡◌, ◌+◌, ◌-◌, ◌/◌, ◌^◌, suc, sym, arith}
use native.Mathlib.Nat.{div-one}
use Rattle.laws.proofs.Put.{put-none}
use Rattle.words.proofs.Laws.{length-bytes_of, next-byte}
use Rattle.words.proofs.Turns.{put-turn, store-no, store-yes}
use Rattle.words.proofs.put.Goals as goal

pub returns-then-out-at : goal.returns-then-out-at
returns-then-out-at c = store-no _ _ _ c.args.n (length-bytes_of c.args.n c.args.v) (omega arith)

pub returns-then-out-at-2 : goal.returns-then-out-at-2
returns-then-out-at-2 c = store-no _ _ _ c.args.n (length-bytes_of c.args.n c.args.v) (omega arith)

pub loop-place-init : goal.loop-place-init
loop-place-init c = let z : c.args.at + c.args.n - (c.args.at + c.args.n) ≡ 0 = omega arith in
    rw z (omega arith, sym (div-one _), sym (put-none _ _))

pub loop-place-preserved : goal.loop-place-preserved
loop-place-preserved c =
    let l = c.loop-place in
    let next : l.place ≡ suc (l.place - 1) = omega arith in
    let rest : l.rest ≡ c.args.v / 256 ^ (c.args.at + c.args.n - suc (l.place - 1)) = rw (← next) l.invariant.1 in
    let more : c.args.at + c.args.n - (l.place - 1) ≡ suc (c.args.at + c.args.n - suc (l.place - 1)) = omega arith in (
      omega arith,
      rw (rest, more) (next-byte _ _),
      put-turn _ _ (l.place - 1) _ _ _ (omega arith) rest (rw (← next) l.invariant.2),
    )

pub returns : goal.returns
returns c =
    let l = c.loop-place in
    let end : l.place ≡ c.args.at = omega arith in
    let all : c.args.at + c.args.n - c.args.at ≡ c.args.n = omega arith in
    store-yes (omega (arith, length-bytes_of c.args.n c.args.v)) (record {
      bytes = rw (end, all) at l.invariant.2;
      place = omega (arith, length-bytes_of c.args.n c.args.v);
    })
