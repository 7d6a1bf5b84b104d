-- `hexadecimal::all_digits`: the library's test of every item.
use Rattle.std.proofs.Common.{◌∙◌, rules, tests}
use Rattle.std.proofs.lemmas.Iterator.{YieldsList-from_slice}
use Rattle.std.proofs.lemmas.Iterator.Search.{all_from_yields_List}
use Rattle.hexadecimal.specs.Digits.{is_digit}
use Rattle.hexadecimal.proofs.Reading.{list_all_digits}
use Rattle.hexadecimal.proofs.all_digits.Goals as goal

pub returns : goal.returns
returns c =
    let line = c.args.line.now in
    all_from_yields_List is_digit _ _ c.all.result c.all.ensures.ran (YieldsList-from_slice line (cc)) (λ x b q k. search (rules, tests))
    ∙ list_all_digits line
