-- `words::run_of` meets its contract: the first flagged word is where the search found it. Assumes nothing.
use Rattle.std.proofs.Common.{rules, tests, arith, ◌≡◌, ◌∙◌}
use Rattle.std.specs.List.{position}
use Rattle.std.proofs.lemmas.Iterator.{YieldsList-from_slice}
use Rattle.std.proofs.lemmas.Iterator.Search.{position_from_yields_List}
use Rattle.matte.specs.Layout.{eight}
use Rattle.edgel.specs.Word.{flagged}
use Rattle.tally.proofs.First.{first_le}
use Rattle.words.proofs.Search.{first_found}
use Rattle.words.proofs.run_of.Goals as goal

pub returns : goal.returns
returns c =
    let e : c.position.result ≡ position (flagged eight) c.args.ws.now = position_from_yields_List (flagged eight) _ _ c.position.result c.position.ensures.ran (YieldsList-from_slice c.args.ws.now cc) (λ x b q k. search (rules, tests)) in
    let f = first_found (flagged eight) c.args.ws.now c.position.result e in
    (c.unwrap_or.ensures ∙ f, omega (arith, first_le (flagged eight) c.args.ws.now, c.unwrap_or.ensures, f))
