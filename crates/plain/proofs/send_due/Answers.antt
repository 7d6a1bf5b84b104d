-- `plain::send_due`: the one message if it is due, then the other; both marks are cleared.
use mathlib.Core.Path.{◌∙◌}
use native.Mathlib.Omega.{arith}
use native.Mathlib.Nat.{zero-add}
use Rattle.laws.proofs.Put.{kept}
use Rattle.plain.specs.Events.{monitors_sent}
use Rattle.plain.proofs.Frames.{behind-yes, monitor-few, both-sent}
use Rattle.plain.proofs.send_due.Goals as goal

pub returns : goal.returns
unfolding monitors_sent
returns c =
    let w = c.write_monitor-at.ensures in
    let l = c.line_at-line.result in
    let b = c.args.board.now in
    let y = behind-yes (omega (arith, c.requires, w.place, kept w, monitor-few l.due b)) c.append_external-end.ensures in
    let f = both-sent l b w y in
    record {
      board = rw (← c.line_at-line.ensures) c.put_line.ensures;
      gives = c.replied.ensures ∙ rw (f.place, zero-add, c.line_at-line.ensures);
      leaves = rw (← c.line_at-line.ensures) f.bytes;
    }
