-- `words::first_bad_code` meets its contract: the first bad code is where the search found it. Assumes nothing.
use Rattle.std.proofs.Common.{rules, tests, ◌≡◌, ◌∙◌, ap}
use Rattle.std.specs.List.{position}
use Rattle.std.proofs.lemmas.Iterator.{YieldsList-from_slice}
use Rattle.std.proofs.lemmas.Iterator.Search.{position_from_yields_List}
use Rattle.matte.specs.Layout.{eight}
use Rattle.refuse.specs.declared.size.Size.{Size}
use Rattle.tally.specs.Tally.{first_at}
use Rattle.words.specs.Fit.{bad_code}
use Rattle.words.proofs.Search.{first_found}
use Rattle.words.proofs.first_bad_code.Goals as goal

pub returns : goal.returns
returns c =
    let ws = c.args.ws.now in
    let bad = λ (s : Size). bad_code eight s.width s.height in
    let on = c.grid_of-g.result.size in
    let e : c.position.result ≡ position (bad on) ws = position_from_yields_List (bad on) _ _ c.position.result c.position.ensures.ran (YieldsList-from_slice ws cc) (λ x b q k. search (rules, tests)) in
    c.unwrap_or.ensures
    ∙ first_found (bad on) ws c.position.result e
    ∙ ap (λ (s : Size). first_at (bad s) ws) c.grid_of-g.ensures
