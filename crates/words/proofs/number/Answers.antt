-- `words::number`: by what `take` found.
use Rattle.words.proofs.Laws.{number-some, number-none}
use Rattle.words.proofs.number.Goals as goal

pub returns-in-Some : goal.returns-in-Some
returns-in-Some c = number-some _ _ _ _ c.in-Some.ensures

pub returns-in-None : goal.returns-in-None
returns-in-None c = number-none _ _ _ c.in-None.ensures
