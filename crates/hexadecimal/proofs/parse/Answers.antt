-- `hexadecimal::parse`: a bad line, and one that can be fed.
use Rattle.std.proofs.Common.{refl, sym, ap, ◌∙◌}
use native.Mathlib.Nat.{zero-add}
use Rattle.std.specs.Prelude.{Some}
use Rattle.laws.proofs.Put.{put-none}
use Rattle.hexadecimal.proofs.Reading.{feeds-short, parsed-some, parsed-none}
use Rattle.hexadecimal.proofs.parse.Goals as goal

pub returns-then-not-is_frame-clause-value : goal.returns-then-not-is_frame-clause-value
returns-then-not-is_frame-clause-value c = rw (parsed-none _ (sym c.is_frame.ensures ∙ c.if-not-is_frame.true)) refl

pub returns-then-not-is_frame-clause-out_after : goal.returns-then-not-is_frame-clause-out_after
returns-then-not-is_frame-clause-out_after c =
    rw (parsed-none _ (sym c.is_frame.ensures ∙ c.if-not-is_frame.true)) (sym (put-none 0 _))

pub unpack-requires : goal.unpack-requires
unpack-requires c = feeds-short _ (sym c.is_frame.ensures ∙ c.if-not-is_frame.false)

pub returns-clause-value : goal.returns-clause-value
returns-clause-value c =
    rw (parsed-some _ (sym c.is_frame.ensures ∙ c.if-not-is_frame.false)) (ap Some (c.unpack.ensures.place ∙ zero-add _))

pub returns-clause-out_after : goal.returns-clause-out_after
returns-clause-out_after c = rw (parsed-some _ (sym c.is_frame.ensures ∙ c.if-not-is_frame.false)) c.unpack.ensures.bytes
