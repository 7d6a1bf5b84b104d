-- `copying::copy`: what is still to be copied gives, behind what is there, what all of it gives.
use Rattle.std.proofs.Common.{refl, ◌∙◌, ◌+◌, arith, length-drop}
use Rattle.words.proofs.Turns.{store-no}
use Rattle.copying.proofs.Turns.{four_more, one_more, all_stored}
use Rattle.copying.proofs.copy.Goals as goal

pub returns-then-out-at : goal.returns-then-out-at
returns-then-out-at c = store-no _ _ _ _ refl (omega arith)

pub loop-rest-preserved : goal.loop-rest-preserved
loop-rest-preserved c = let l = c.loop-rest in record {
  place = omega arith;
  bytes = four_more l.rest.now l.out l.to _ (omega arith) refl ∙ l.invariant.bytes;
}

pub loop-byte-preserved : goal.loop-byte-preserved
loop-byte-preserved c = let l = c.loop-byte in record {
  place = omega (arith, length-drop l.byte-index c.loop-rest.rest.now, length-drop (l.byte-index + 1) c.loop-rest.rest.now);
  bytes = one_more c.loop-rest.rest.now _ _ l.byte-index (omega arith) ∙ l.invariant.bytes;
}

pub returns : goal.returns
returns c = let l = c.loop-byte in
    all_stored c.args.src.now c.loop-rest.rest.now c.args.out.now l.out c.args.at l.to l.byte-index (omega arith) (omega arith) l.invariant.place
    l.invariant.bytes
