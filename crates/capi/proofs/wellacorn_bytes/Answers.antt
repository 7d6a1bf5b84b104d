-- `capi::wellacorn_bytes`: the record goes to the place that `board::bytes` names, where it names one.
use Rattle.capi.proofs.Stored.{stored}
use Rattle.capi.proofs.wellacorn_bytes.Goals as goal
use Rattle.capi.proofs.wellacorn_bytes.Goals.{in-Some, in_default}

pub returns-clause-row_after : goal.returns-clause-row_after
returns-clause-row_after c =
    let says = c.bytes-taken.ensures.at_value in
    elim c.match-taken.branch [
      | in-Some w ↦ rw (w.row-is, w.put_pulse.ensures, says.1) (stored _ _ _ _ (rw w.in-Some.is at says.0))
      | in_default w ↦ rw w.row-is (stored _ _ _ _ (rw w.in_default.is at says.0))
    ]
