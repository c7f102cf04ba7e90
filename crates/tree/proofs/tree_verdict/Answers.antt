-- `tree::tree_verdict` meets its contract: the list's rows, then 7. Assumes nothing.
use Rattle.std.proofs.Common.{◌≡◌, refl, ap, ◌∙◌, [], ◌∷◌, ℕ, ◌/◌, ltb, length}
use Rattle.matte.specs.Layout.{eight}
use Rattle.matte.specs.Picture.{picture}
use Rattle.refuse.specs.Refusal.{row_at, verdict}
use Rattle.refuse.proofs.Rows.{gone_on}
use Rattle.outline.specs.List.{list_rows}
use Rattle.trace.proofs.Refusals.{accepted}
use Rattle.enclosure.specs.Call.{half}
use Rattle.tree.proofs.Verdicts.{half_is}
use Rattle.tree.proofs.tree_verdict.Goals as goal

pub crossings_of-half-requires : goal.crossings_of-half-requires
crossings_of-half-requires c =
    let a = c.args in
    let S = accepted eight (picture a.w a.h a.px.now) a.levels.now a.work.now a.words.now _ c.in_ok-list_verdict.ensures refl in
    (S.ground, S.levels)

pub returns : goal.returns
returns c =
    let a = c.args in
    let P = picture a.w a.h a.px.now in
    let n = half P a.levels.now in
    let q : c.crossings_of-half.result / 2 ≡ n = half_is P a.levels.now _ c.crossings_of-half.ensures.0 in
    gone_on (list_rows eight P a.levels.now a.work.now a.words.now) (row_at 7 (ltb (length a.places.now) n) n ∷ []) _ _ refl c.in_ok-list_verdict.ensures refl
    (c.row_verdict.ensures ∙ ap (λ (m : ℕ). verdict (row_at 7 (ltb (length a.places.now) m) m ∷ [])) q)
