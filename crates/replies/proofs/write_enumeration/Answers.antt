-- `replies::write_enumeration`: the devices that are always there and the present ones of the second deck, or none.
use mathlib.Core.Path.{◌≡◌, sym, ap, ◌∙◌}
use mathlib.Core.List.{List, ◌++◌, map}
use Prim.Native.Nat.{ℕ, ◌+◌, ◌%◌}
use lib.ListN.{length, length-append, length-map}
use Rattle.std.proofs.Common.{refl, rules, arith}
use Rattle.laws.specs.Put.{rows}
use Rattle.words.specs.Words.{bytes_of}
use Rattle.rows.specs.Places.{Board}
use Rattle.modules.specs.Modules.{second_deck, outputs}
use Rattle.modules.proofs.Outputs.{outputs-few}
use Rattle.devices.specs.declared.Device.{Device}
use Rattle.devices.specs.declared.Device.TheVariants.{Relay}
use Rattle.devices.specs.Devices.{devices}
use Rattle.writers.specs.Writing.{Wrote}
use Rattle.writers.proofs.Writing.{then, sent}
use Rattle.replies.specs.Replies.{id_row, present_row, enumeration_reply}
use Rattle.replies.proofs.Lengths.{length-enumeration}
use Rattle.replies.proofs.Places.{found_all, found_none, outputs-rows}
use Rattle.replies.proofs.write_enumeration.Goals as goal

-- the whole list
whole : (flags count : ℕ) (t : Board) → flags % 2 ≡ 1 → count ≡ 16 + length (outputs t)
    → (bytes_of 1 27 ++ bytes_of 1 flags ++ bytes_of 2 count) ++ rows id_row devices ++ rows (present_row t) second_deck ≡ enumeration_reply flags t
unfolding enumeration_reply rows
whole flags count t h e =
    let n : length (devices ++ map Relay (outputs t)) ≡ count = length-append devices (map Relay (outputs t)) ∙ rw (length-map (outputs t) Relay) (sym e) in
    let front : List ℕ → List ℕ = λ l. bytes_of 1 27 ++ bytes_of 1 flags ++ bytes_of 2 count ++ (rows id_row devices ++ l) in
    ap front (sym (outputs-rows t))
    ∙ ap (λ (k : ℕ). bytes_of 1 27 ++ bytes_of 1 flags ++ bytes_of 2 k ++ rows id_row (devices ++ map Relay (outputs t))) (sym n)
    ∙ ap (λ (l : List Device). bytes_of 1 27 ++ bytes_of 1 flags ++ bytes_of 2 (length l) ++ rows id_row l) (sym (found_all flags t h))

none : (flags : ℕ) (t : Board) → (flags % 2 ≡ 1 → ⊥) → bytes_of 1 27 ++ bytes_of 1 flags ++ bytes_of 2 0 ≡ enumeration_reply flags t
unfolding enumeration_reply rows
none flags t n = rw (found_none flags t n)

pub overflow_add-output_count : goal.overflow_add-output_count
overflow_add-output_count c = omega (arith, c.output_count.ensures, outputs-few c.args.board.now)

pub returns-then-flags-eq1 : goal.returns-then-flags-eq1
returns-then-flags-eq1 c =
    let found = ap (λ (k : ℕ). 16 + k) c.output_count.ensures in
    let wrote : Wrote (enumeration_reply c.args.flags c.args.board.now) c.new-writer.result c.write_outputs.new.writer =
    rw (← whole _ _ _ c.if-flags-eq1.true found) (then c.write_head.ensures (then c.write_devices.ensures c.write_outputs.ensures)) in
    sent (omega arith) (length-enumeration _ _) c.new-writer.ensures.bytes c.new-writer.ensures.place wrote (search rules) refl

pub returns : goal.returns
returns c =
    let wrote : Wrote (enumeration_reply c.args.flags c.args.board.now) c.new-writer.result c.write_head-2.new.writer =
    rw (← none _ _ c.if-flags-eq1.false) c.write_head-2.ensures in
    sent (omega arith) (length-enumeration _ _) c.new-writer.ensures.bytes c.new-writer.ensures.place wrote (search rules) refl
