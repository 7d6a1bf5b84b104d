-- The one law of rows: the record of a record's words is that record.
use mathlib.Core.Path.{◌≡◌, refl}
use mathlib.Core.Bool.{Bool, true, false}
use mathlib.Core.List.{List}
use Prim.Native.Nat.{ℕ}
use Rattle.records.specs.declared.Input.{Input}
use Rattle.records.specs.declared.Relay.{Relay}
use Rattle.records.specs.declared.Line.{Line}
use Rattle.records.specs.declared.Queue.{Queue}
use Rattle.records.specs.Records.{is_on, flagged, input_in, input_words, relay_in, relay_words, line_in, line_words, queue_in, queue_words}

pub flag-again : (b : Bool) → is_on (flagged b) ≡ b
flag-again true = refl
flag-again false = refl

pub input-again : (i : Input) → input_in (input_words i) ≡ i
input-again i = rw (flag-again i.level, flag-again i.alarm)

pub relay-again : (w : List ℕ) (r : Relay) → relay_in (relay_words w r) ≡ r
relay-again w r = rw (flag-again r.closed)

pub line-again : (l : Line) → line_in (line_words l) ≡ l
line-again l = rw (flag-again l.is_open, flag-again l.monitor, flag-again l.due, flag-again l.external)

pub queue-again : (q : Queue) → queue_in (queue_words q) ≡ q
queue-again q = refl
