-- Inputs and relays with one number or state of theirs replaced: 01, What the box holds, 1 and 2.
use Rattle.std.specs.Prelude.{Bool, ℕ}
use Rattle.records.specs.declared.Input.{Input}
use Rattle.records.specs.declared.Relay.{Relay}

-- an input at another level
abbrev pub leveled : Bool → Input → Input
leveled on i =
    record {
      level = on;
      alarm = i.alarm;
      count = i.count;
      setpoint_one = i.setpoint_one;
      setpoint_two = i.setpoint_two;
      usage = i.usage;
      usage_setpoint = i.usage_setpoint;
    }

-- an input with another count
abbrev pub counted : ℕ → Input → Input
counted n i =
    record {
      level = i.level;
      alarm = i.alarm;
      count = n;
      setpoint_one = i.setpoint_one;
      setpoint_two = i.setpoint_two;
      usage = i.usage;
      usage_setpoint = i.usage_setpoint;
    }

-- an input with another usage
abbrev pub input_used : ℕ → Input → Input
input_used u i =
    record {
      level = i.level;
      alarm = i.alarm;
      count = i.count;
      setpoint_one = i.setpoint_one;
      setpoint_two = i.setpoint_two;
      usage = u;
      usage_setpoint = i.usage_setpoint;
    }

-- a relay in another state
abbrev pub switched : Bool → Relay → Relay
switched closed r = record { closed = closed; usage = r.usage; usage_setpoint = r.usage_setpoint }

-- a relay with another usage
abbrev pub relay_used : ℕ → Relay → Relay
relay_used u r = record { closed = r.closed; usage = u; usage_setpoint = r.usage_setpoint }
