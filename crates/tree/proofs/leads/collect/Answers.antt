-- `tree::leads::collect` meets its contract: each turn takes the lead of one word more. Assumes nothing.
use Rattle.std.proofs.Common.{ℕ, ◌+◌, ◌++◌, take, drop, refl, sym, ap, ◌∙◌, arith}
use Rattle.tree.specs.Note.{leads_of}
use Rattle.tree.proofs.Flagged.{keep_room, keep_most, keep_count, keep_places}
use Rattle.tree.proofs.leads.collect.Goals as goal

pub loop-u-init : goal.loop-u-init
unfolding leads_of
loop-u-init c = (refl, refl)

pub keep-m-requires : goal.keep-m-requires
keep-m-requires c =
    let a = c.args in
    let l = c.loop-u in
    let t = take a.n a.words.now in
    let v = l.invariant in (
      λ e. omega (arith, keep_room t a.places.now l.u-index l.m l.places c.loop-u-test.true c.requires.1 v.0 v.1 e, l.auto.places),
      omega (arith, keep_most t a.places.now l.u-index l.m l.places c.loop-u-test.true c.requires.1 v.0 v.1, l.auto.places),
    )

pub loop-u-preserved : goal.loop-u-preserved
loop-u-preserved c =
    let a = c.args in
    let l = c.loop-u in
    let t = take a.n a.words.now in
    let v = l.invariant in
    let k = c.keep-m.ensures in (
      k.0 ∙ keep_count t a.places.now l.u-index l.m l.places c.loop-u-test.true c.requires.1 v.0 v.1,
      k.1
          ∙ keep_places t a.places.now l.u-index l.m l.places c.loop-u-test.true c.requires.1 v.0 v.1
          ∙ ap (λ (y : ℕ). leads_of (take (l.u-index + 1) t) ++ drop y a.places.now) (sym k.0),
    )
