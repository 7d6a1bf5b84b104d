-- When an entry of a WriteDevices message fails, said without what it does. It decides nothing: only theorems are stated with it.
use Rattle.std.specs.Prelude.{Bool, true, not, ◌||◌, ltb, Option, Some, None}
use Rattle.rows.specs.Places.{is_channel}
use Rattle.devices.specs.declared.Device.{Device}
use Rattle.devices.specs.declared.Device.TheVariants.{Input, Relay}
use Rattle.devices.specs.Devices.{device_of}
use Rattle.edits.specs.Edits.{relay_fails}
use Rattle.orders.specs.declared.Entry.{Entry}
use Rattle.writes.specs.Writes.{input_size_fits, relay_size_fits}

-- 01, Messages, 23, 3, what fails alone: an unknown ID, a wrong length of the block, an unknown flag (an input has 1, 2 and 4), or a relay's
-- state above 1; 02, M-102, 9: a relay that is none of 1 to 8
abbrev pub device_fails : Option Device → Entry → Bool
device_fails (Some (Input k)) e = not (input_size_fits e.size e.flags) || ltb 7 e.flags
device_fails (Some (Relay k)) e = not (relay_size_fits e.size e.flags) || (relay_fails e.flags e.state || not (is_channel k))
device_fails None e = true

-- an entry, by the device of its ID
abbrev pub entry_fails : Entry → Bool
entry_fails e = device_fails (device_of e.id) e
