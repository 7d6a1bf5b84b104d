-- `capi::wellacorn_pass`: a call in which no pulse ends, or else the other function's.
use Rattle.board.proofs.Timed.{pass-refused, pass-quiet}
use Rattle.capi.proofs.Turns.{at-once}
use Rattle.capi.proofs.wellacorn_pass.Goals as goal
use Rattle.capi.proofs.wellacorn_pass.Goals.{in-Err, in-Ok-true, in-Ok-false}

pub returns-clause-ends : goal.returns-clause-ends
returns-clause-ends c =
    let b = c.args.board.now in
    let row = c.args.row.now in
    let z = c.at_once.new.board in
    let says = at-once row c.args.d b z c.at_once.result c.at_once.ensures.board_after c.at_once.ensures.value in
    elim c.match-at_once.branch [
      | in-Err w ↦ let s = rw w.in-Err.is at says in
          rw (w.board-is, c.passed.ensures.value, w.answer-is, w.number-answer.ensures, s.2) (pass-refused row c.args.d b z s.0 s.1)
      | in-Ok-true w ↦ let s = rw (w.in-Ok-true.is, w.in-Ok-true.field-0-test) at says in
          rw (w.board-is, c.passed.ensures.value, w.answer-is) (rw s at w.wellacorn_pass_pulsed-answer.ensures)
      | in-Ok-false w ↦ let s = rw (w.in-Ok-false.is, w.in-Ok-false.field-0-test) at says in
          rw (w.board-is, c.passed.ensures.value, w.answer-is) (pass-quiet row c.args.d b z s.0 s.1 s.2)
    ]
