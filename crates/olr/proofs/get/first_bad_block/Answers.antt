-- The turns and the ends of the loop of `olr::get::first_bad_block`. Assumes nothing.
use Rattle.std.proofs.Common.{◌+◌, ◌-◌, ◌*◌, not, refl, sym, ap, ◌∙◌, arith, below_more}
use Rattle.olr.specs.Read.{blocks}
use Rattle.olr.proofs.Checks.{check_part, sum_wrong, sum_right, bad_stop, bad_all}
use Rattle.olr.proofs.get.first_bad_block.Goals as goal
use Rattle.olr.proofs.get.first_bad_block.Goals.{else-n-eq1-via-then-n-eq1+else-not-check_fits, else-n-eq1-via-else-n-eq1}

pub returns-then-num4_at-two : goal.returns-then-num4_at-two
returns-then-num4_at-two c =
    let f = c.args.file.now in
    let i = 2 * c.loop-k.k in
    bad_stop f i c.loop-k.invariant (omega arith)
    (sum_wrong f i i 0 _ _ _ (omega arith) (omega arith) c.check_two-two.ensures.0 c.num4_at.ensures c.if-num4_at-two.true)

pub returns-then-num4_at-two-2 : goal.returns-then-num4_at-two-2
returns-then-num4_at-two-2 c =
    let f = c.args.file.now in
    let i = 2 * c.loop-k.k in
    let two = c.check_two-two.ensures in
    bad_stop f (i + 1)
    (below_more _ i c.loop-k.invariant (sum_right f i i 0 _ _ _ (omega arith) (omega arith) two.0 c.num4_at.ensures c.if-num4_at-two.false))
    (omega arith)
    (sum_wrong f i (i + 1) 512 _ _ _ (omega arith) (omega arith) two.1 c.num4_at-in-loop-k.ensures c.if-num4_at-two-2.true)

pub loop-k-preserved : goal.loop-k-preserved
loop-k-preserved c =
    let f = c.args.file.now in
    let i = 2 * c.loop-k.k in
    let two = c.check_two-two.ensures in
    λ j l.
    below_more _ (i + 1)
    (below_more _ i c.loop-k.invariant (sum_right f i i 0 _ _ _ (omega arith) (omega arith) two.0 c.num4_at.ensures c.if-num4_at-two.false))
    (sum_right f i (i + 1) 512 _ _ _ (omega arith) (omega arith) two.1 c.num4_at-in-loop-k.ensures c.if-num4_at-two-2.false)
    j
    (omega arith)

pub returns-then-not-check_fits : goal.returns-then-not-check_fits
returns-then-not-check_fits c =
    let f = c.args.file.now in
    let i = blocks f - 1 in
    bad_stop f i (λ j l. c.loop-k.invariant j (omega arith)) (omega arith)
    (ap not (sym (check_part f i _ _ (omega arith) c.check_fits.ensures) ∙ c.if-not-check_fits.true))

pub returns : goal.returns
returns c =
    let f = c.args.file.now in
    let n = blocks f in
    elim c.else-n-eq1.branch [
      | else-n-eq1-via-then-n-eq1+else-not-check_fits w ↦
          bad_all f n
          (λ j l.
          below_more _ (n - 1) (λ j l. c.loop-k.invariant j (omega arith))
          (ap not (sym (check_part f (n - 1) _ _ (omega arith) w.check_fits.ensures) ∙ w.if-not-check_fits.false))
          j
          (omega arith))
          refl
      | else-n-eq1-via-else-n-eq1 w ↦ bad_all f n (λ j l. c.loop-k.invariant j (omega arith)) refl
    ]
