-- `stepped::row_few`: one step more, by all eight levels. Assumes nothing.
use Rattle.std.proofs.Common.{◌≡◌, ℕ, ◌+◌, ◌<◌, ◌∙◌, sym, ap, ltb, get_or, arith}
use Rattle.tally.specs.Tally.{one}
use Rattle.tally.proofs.Sum.{sum_same}
use Rattle.count.specs.Steps.{steps, step_table, level_or}
use Rattle.count.proofs.Steps.{steps_sum, table_at}
use Rattle.count.proofs.Rows.{row_more}
use Rattle.count.proofs.stepped.row_few.Goals as goal

pub loop-x-preserved : goal.loop-x-preserved
loop-x-preserved c =
    let a = c.args in
    let l = c.loop-x in
    let ks = a.ks.now in
    let v = get_or a.px.now (a.from + l.x) 0 in
    let b : v < 256 = omega (arith, c.type_inv.px (a.from + l.x)) in
    let e : c.step8.result ≡ steps ks v =
    c.step8.ensures
    ∙ sum_same _ (λ j. one (ltb (level_or ks j) v)) 8 (λ j h. ap (λ (z : ℕ). one (ltb z v)) (c.eight_levels-levels.ensures j h))
    ∙ sym (steps_sum ks 8 v c.requires.0 b) in
    row_more (step_table ks) a.px.now l.q a.from l.x _ l.invariant (omega (arith, c.requires.1.wide)) b (e ∙ sym (table_at ks v b))
