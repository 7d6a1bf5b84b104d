-- Connection 0 opens at power-up.
use mathlib.Core.Path.{◌≡◌, refl}
use lib.ListN.{replicate}
use Rattle.rows.specs.Places.{line_at, on_rows}
use Rattle.connections.specs.Lines.{connected}
use Rattle.powerup.specs.PowerUp.{blank_settings, powered_up}
use Rattle.board.specs.Calls.{connect_call}

pub opened : (connect_call 0 2 0 (powered_up (record { inputs = replicate 8 blank_settings; relays = replicate 8 0 }))).did.answer ≡ 1
unfolding connect_call connected powered_up on_rows line_at
opened = refl
