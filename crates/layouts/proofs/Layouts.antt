-- Every layout in every content.
--     layout-outcome     it is there whole, up to the content's last byte, or it breaks with 20, 21 or 22 and the place that each has
--     fields-whole       fields of the content's length are there whole
--     list-early, list-cut, list_over, list-whole    what a count and its list come to, by the content's length
--     fields-and-list    so where they are there whole, their bytes are the content's
use mathlib.Core.Path.{◌≡◌, refl, sym, ap, subst, ◌∙◌}
use mathlib.Core.Bool.{Bool, true, false, cond}
use mathlib.Core.List.{List, [], ◌∷◌}
use Prim.Native.Nat.{ℕ, ◌+◌, ◌≤◌, ◌<◌}
use native.Mathlib.Omega.{arith}
use borrow.Author.Tests.{leb-true, ltb-true, ltb-false}
use lib.Dec.{leb, ltb}
use Rattle.laws.proofs.Tests.{by_cases}
use Rattle.layouts.specs.Layouts.{Part, fields, optional, entries, onward, optionally, part_of, parts_of, finished, layout_in}
use Rattle.layouts.specs.Outcomes.{Outcome, whole, early, surplus, in_list}
use Rattle.layouts.proofs.Reaching.{onward-there, onward-cut, finished-over, finished-there}
use Rattle.std.specs.Prelude.{Result, Ok, Err}
use Rattle.refusals.specs.declared.Refusal.{Refusal}
use Rattle.refusals.specs.declared.Refusal.TheVariants.{EndsEarly, LeftOver, ListCut}

-- on its way a layout has come to a place in the content, or the content has ended
data OnItsWay (n : ℕ) : Result ℕ Refusal → Type 0 where
  at_place : (at : ℕ) → at ≤ n → OnItsWay n (Ok at)
  ended-early : OnItsWay n (Err (EndsEarly n))
  ended-in-list : OnItsWay n (Err (ListCut n))

module _ (n : ℕ) where
  further : (refusal : ℕ → Refusal) (size at : ℕ) → OnItsWay n (Err (refusal n)) → OnItsWay n (onward refusal n size (Ok at))
  unfolding onward
  further refusal size at cut = go (leb (at + size) n) refl
    where
      go : (b : Bool) → leb (at + size) n ≡ b → OnItsWay n (cond b (Ok (at + size)) (Err (refusal n)))
      go true e = at_place (at + size) (leb-true (at + size) n e)
      go false e = cut

  part-goes : (part : Part) (reach : Result ℕ Refusal) → OnItsWay n reach → OnItsWay n (part_of n part reach)
  unfolding onward optionally
  part-goes (fields size) (Ok at) w = further EndsEarly size at ended-early
  part-goes (fields size) (Err refusal) w = w
  part-goes (optional size) (Ok at) w = go (ltb at n)
    where
      go : (b : Bool) → OnItsWay n (cond b (onward EndsEarly n size (Ok at)) (Ok at))
      go true = further EndsEarly size at ended-early
      go false = w
  part-goes (optional size) (Err refusal) w = w
  part-goes (entries size) (Ok at) w = further ListCut size at ended-in-list
  part-goes (entries size) (Err refusal) w = w

  parts-go : (parts : List Part) (reach : Result ℕ Refusal) → OnItsWay n reach → OnItsWay n (parts_of n parts reach)
  parts-go [] reach w = w
  parts-go (part ∷ parts) reach w = parts-go parts (part_of n part reach) (part-goes part reach w)

  at-place-end : (at : ℕ) → at ≤ n → Outcome n (finished n (Ok at))
  unfolding finished
  at-place-end at h = go (ltb at n) refl
    where
      go : (b : Bool) → ltb at n ≡ b → Outcome n (cond b (Err (LeftOver at)) (Ok at))
      go true e = surplus (ltb-true at n e)
      go false e =
          let l : n ≤ at = ltb-false at n e in
          let all : n ≡ at = omega arith in
          subst (λ (k : ℕ). Outcome n (Ok k)) all whole

  at-its-end : {reach : Result ℕ Refusal} → OnItsWay n reach → Outcome n (finished n reach)
  unfolding finished
  at-its-end (at_place at h) = at-place-end at h
  at-its-end ended-early = early
  at-its-end ended-in-list = in_list

  pub layout-outcome : (layout : List Part) → Outcome n (layout_in n layout)
  layout-outcome layout = at-its-end (parts-go layout (Ok 0) (at_place 0 (omega arith)))

-- ---- fields alone, of the content's own length

pub fields-whole : (n : ℕ) → layout_in n (fields n ∷ []) ≡ Ok n
fields-whole n =
    let end : 0 + n ≡ n = omega arith in
    ap (finished n) (onward-there EndsEarly n n 0 (omega arith)) ∙ ap (λ (at : ℕ). finished n (Ok at)) end ∙ finished-there n

-- ---- a count and its list, by the content's length: one of the four comes to each

module _ (n front size : ℕ) where
  -- the fields and the list, of which the fields come to a place
  behind-fields : {reach : Result ℕ Refusal} → onward EndsEarly n front (Ok 0) ≡ reach
      → layout_in n (fields front ∷ entries size ∷ []) ≡ finished n (onward ListCut n size reach)
  behind-fields e = ap (λ (r : Result ℕ Refusal). finished n (onward ListCut n size r)) e

  list-there : front + size ≤ n → layout_in n (fields front ∷ entries size ∷ []) ≡ finished n (Ok (0 + front + size))
  list-there h = behind-fields (onward-there EndsEarly n front 0 (omega arith)) ∙ ap (finished n) (onward-there ListCut n size (0 + front) (omega arith))

  pub list-early : n < front → layout_in n (fields front ∷ entries size ∷ []) ≡ Err (EndsEarly n)
  unfolding onward finished
  list-early h = behind-fields (onward-cut EndsEarly n front 0 (omega arith))

  pub list-cut : front ≤ n → n < front + size → layout_in n (fields front ∷ entries size ∷ []) ≡ Err (ListCut n)
  unfolding finished
  list-cut h k = behind-fields (onward-there EndsEarly n front 0 (omega arith)) ∙ ap (finished n) (onward-cut ListCut n size (0 + front) (omega arith))

  pub list_over : front + size < n → layout_in n (fields front ∷ entries size ∷ []) ≡ Err (LeftOver (front + size))
  list_over h =
      let end : 0 + front + size ≡ front + size = omega arith in
      list-there (omega arith) ∙ ap (λ (at : ℕ). finished n (Ok at)) end ∙ finished-over n (front + size) h

  pub list-whole : front + size ≡ n → layout_in n (fields front ∷ entries size ∷ []) ≡ Ok n
  list-whole h =
      let end : 0 + front + size ≡ n = omega arith in
      list-there (omega arith) ∙ ap (λ (at : ℕ). finished n (Ok at)) end ∙ finished-there n

  -- so where they are there whole, their bytes are the content's
  pub fields-and-list : layout_in n (fields front ∷ entries size ∷ []) ≡ Ok n → front + size ≡ n
  fields-and-list e =
      by_cases (ltb n front) (λ t. never-to (sym (list-early (ltb-true n front t)) ∙ e))
      (λ f. by_cases (ltb n (front + size)) (λ t. never-to (sym (list-cut (ltb-false n front f) (ltb-true n (front + size) t)) ∙ e))
      (λ g. by_cases (ltb (front + size) n) (λ t. never-to (sym (list_over (ltb-true (front + size) n t)) ∙ e))
      (λ h. omega (arith, ltb-false n (front + size) g, ltb-false (front + size) n h))))
    where
      never-to : {refusal : Refusal} {at : ℕ} {A : Type 0} → Err refusal ≡ Ok at → A
      never-to w = cc
