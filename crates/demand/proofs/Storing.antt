-- The box of Store is lawful, and so meets demand 3.
use mathlib.Core.Path.{◌≡◌, refl, sym, ap, ◌∙◌}
use mathlib.Core.Bool.{Bool, true, false, cond, true≢false}
use mathlib.Core.List.{List}
use mathlib.Core.Option.{Option, none, some}
use Prim.Native.Nat.{ℕ}
use native.Mathlib.Omega.{arith}
use borrow.Author.Tests.{eq-eqb}
use lib.Dec.{eqb}
use lib.ListN.{length}
use Rattle.steps.specs.Steps.{start, half_after}
use Rattle.framing.specs.Reading.{Run, run_of}
use Rattle.framing.proofs.Turns.{length_run}
use Rattle.demand.specs.Plain.{Serving, OnlyOpen}
use Rattle.demand.specs.Demand.{Call, bytes, other, feeds_to, Meets}
use Rattle.demand.specs.Lawful.{Lawful}
use Rattle.demand.proofs.Meeting.{demand-3}
use Rattle.demand.proofs.Store.{Store, fed_store, store_call, box, Wide}

module _ (W : Serving) where
  stay-wide : (x : Store W) (k : Call W) → Wide W x → Wide W (store_call W x k).0
  stay-wide x (bytes c l p) X d = go (W.refusal x.tables c l)
    where
      either : (t : Bool) → length (cond t (run_of 0 (x.halves c) (x.rooms c) p).room (x.rooms d)) ≡ W.limit
      either true = length_run p 0 (x.halves c) (x.rooms c) ∙ X c
      either false = X d

      go : (o : Option W.Reply) → length ((fed_store W x c p o).0.rooms d) ≡ W.limit
      go none = either _
      go (some a) = X d
  stay-wide x (other e) X d = X d

  reads : (x : Store W) (c : ℕ) (p : List ℕ) (o : Option W.Reply) → o ≡ none → W.is_open x.tables c ≡ true → W.is_open
      (fed_store W x c p o).0.tables c ≡ true
      → (let ρ : Run = run_of 0 (x.halves c) (x.rooms c) p in
      ((fed_store W x c p o).0.halves c ≡ half_after ρ.fed.outcome) × ((fed_store W x c p o).0.rooms c ≡ ρ.room))
  reads x c p none e u v =
      (simp (u, v, eq-eqb c c refl) refl, ap (λ (b : Bool). cond b (run_of 0 (x.halves c) (x.rooms c) p).room (x.rooms c)) (eq-eqb c c refl))
  reads x c p (some a) e u v = let z : ◌≡◌ {A = ℕ} 0 1 = cc in absurd (omega arith)

  keeps : (x : Store W) (k : Call W) (c : ℕ) → feeds_to W c k ≡ false → W.is_open x.tables c ≡ true → W.is_open (store_call W x k).0.tables c ≡ true
      → ((store_call W x k).0.halves c ≡ x.halves c) × ((store_call W x k).0.rooms c ≡ x.rooms c)
  keeps x (bytes d l p) c n = go (W.refusal x.tables d l)
    where
      go : (o : Option W.Reply) → W.is_open x.tables c ≡ true → W.is_open (fed_store W x d p o).0.tables c ≡ true
          → ((fed_store W x d p o).0.halves c ≡ x.halves c) × ((fed_store W x d p o).0.rooms c ≡ x.rooms c)
      go none u v = (simp (u, v, n) refl, simp n refl)
      go (some a) u v = (refl, refl)
  keeps x (other e) c n = λ u v. (rw (u, v), refl)

  opens : (x : Store W) (k : Call W) (c : ℕ) → W.is_open x.tables c ≡ false → W.is_open (store_call W x k).0.tables c ≡ true →
      (store_call W x k).0.halves c ≡ start
  opens x (bytes d l p) c u = go (W.refusal x.tables d l)
    where
      go : (o : Option W.Reply) → W.is_open (fed_store W x d p o).0.tables c ≡ true → (fed_store W x d p o).0.halves c ≡ start
      go none v = rw u
      go (some a) v = absurd (true≢false (sym v ∙ u))
  opens x (other e) c u = λ v. rw u

  module _ (O : OnlyOpen W) where
    pub lawful : Lawful W (box W)
    lawful =
        record {
          half = λ x. x.halves;
          room = λ x. x.rooms;
          Sound = Wide W;
          sound = stay-wide;
          wide = λ x c X o. X c;
          only-open = O;
          refuses = λ x c l p a e. rw e;
          feeds = λ x c l p X e. rw e;
          reads = λ x c l p X e o. reads x c p (W.refusal x.tables c l) e (O x.tables c l e) o;
          does = λ x e X. refl;
          keeps = λ x k c X. keeps x k c;
          opens = λ x k c X. opens x k c;
        }

    -- DEMAND 3 of this box
    pub store-demand-3 : (x : Store W) → Wide W x → ((c : ℕ) → W.is_open x.tables c ≡ true → x.halves c ≡ start) → Meets W (box W) x
    unfolding lawful
    store-demand-3 = demand-3 W (box W) lawful
