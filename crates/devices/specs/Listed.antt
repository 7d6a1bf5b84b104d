-- The devices and their IDs as 01 and 02 list them. It decides nothing: only theorems are stated with it.
use Rattle.std.specs.Prelude.{cond, List, [], ◌∷◌, ℕ, eqb, Option, Some, None}
use Rattle.devices.specs.declared.Device.{Device}
use Rattle.devices.specs.declared.Device.TheVariants.{Input, Relay}

-- 01, Messages, IDs, and 02, M-102, 9: each ID, and whose it is
abbrev pub listed : List (ℕ × Device)
listed =
    (0x01FF, Input 1) ∷ (0x02FF, Input 2) ∷ (0x03FF, Input 3) ∷ (0x04FF, Input 4) ∷
    (0x05FF, Input 5) ∷ (0x06FF, Input 6) ∷ (0x07FF, Input 7) ∷ (0x08FF, Input 8) ∷
    (0x0101FF, Relay 1) ∷ (0x0102FF, Relay 2) ∷ (0x0103FF, Relay 3) ∷ (0x0104FF, Relay 4) ∷
    (0x0105FF, Relay 5) ∷ (0x0106FF, Relay 6) ∷ (0x0107FF, Relay 7) ∷ (0x0108FF, Relay 8) ∷
    (0x0109FF, Relay 9) ∷ (0x010AFF, Relay 10) ∷ (0x010BFF, Relay 11) ∷ (0x010CFF, Relay 12) ∷
    (0x010DFF, Relay 13) ∷ (0x010EFF, Relay 14) ∷ (0x010FFF, Relay 15) ∷ (0x0110FF, Relay 16) ∷ []

-- the device that a list has for an ID; None where it has none
unfoldable pub listed_for : ℕ → List (ℕ × Device) → Option Device
listed_for id [] = None
listed_for id (e ∷ es) = cond (eqb e.0 id) (Some e.1) (listed_for id es)
