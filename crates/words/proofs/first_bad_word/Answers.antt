-- `words::first_bad_word` meets its contract: the first bad word is where the search found it. Assumes nothing.
use Rattle.std.proofs.Common.{rules, tests, ◌≡◌, ◌∙◌, ap, sym, refl, not}
use Rattle.std.specs.List.{position}
use Rattle.std.proofs.lemmas.Iterator.{YieldsList-from_slice}
use Rattle.std.proofs.lemmas.Iterator.Search.{position_from_yields_List}
use Rattle.matte.specs.Layout.{eight}
use Rattle.refuse.specs.declared.size.Size.{Size}
use Rattle.tally.specs.Tally.{first_at}
use Rattle.words.specs.Fit.{bad_word}
use Rattle.words.specs.Listed.{word_fits}
use Rattle.words.proofs.Search.{first_found}
use Rattle.words.proofs.Table.{word_told}
use Rattle.words.proofs.first_bad_word.Goals as goal

pub returns : goal.returns
returns c =
    let ks = c.args.ks.now in
    let ws = c.args.ws.now in
    let on = c.grid_of-g.result.size in
    let t = c.level_table-t.result in
    let bad = λ (s : Size). bad_word eight s.width s.height ks in
    let e : c.position.result ≡ position (bad on) ws = position_from_yields_List (bad on) _ _ c.position.result c.position.ensures.ran (YieldsList-from_slice ws cc) (λ x b q k.
    let m : (q ≡ _) × (b ≡ not (word_fits eight on.width on.height t x.now)) = search (rules, tests) in
    (m.0, m.1 ∙ sym (word_told on.width on.height ks t x.now _ c.level_table-t.ensures refl _ refl))) in
    c.unwrap_or.ensures ∙ first_found (bad on) ws c.position.result e ∙ ap (λ (s : Size). first_at (bad s) ws) c.grid_of-g.ensures
