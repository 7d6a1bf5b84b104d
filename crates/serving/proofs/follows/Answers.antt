-- `serving::follows`: the Monitor message was asked for, or something else.
use mathlib.Core.Path.{◌≡◌, refl, sym}
use mathlib.Core.Bool.{Bool, false}
use Rattle.orders.specs.declared.Order.{Order}
use Rattle.orders.specs.declared.Order.TheVariants.{Monitor}
use Rattle.serving.specs.Obeying.{follows_it}
use Rattle.serving.proofs.Following.{monitor-or}
use Rattle.serving.proofs.follows.Goals as goal

-- every order but that for the Monitor message
other : (order : Order) (there : Bool) → (order ≡ Monitor → ⊥) → false ≡ follows_it order there
other order there = monitor-or (λ o. (o ≡ Monitor → ⊥) → false ≡ follows_it o there) (λ n. absurd (n refl)) (λ o e n. sym (e there)) order

pub returns-in_default : goal.returns-in_default
returns-in_default c = other c.args.order c.args.present c.in_default.not-Monitor
