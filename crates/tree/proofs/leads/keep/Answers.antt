-- `tree::leads::keep` meets its contract. Assumes nothing.
use mathlib.Core.Path.{refl}
use native.Mathlib.Omega.{arith}
use borrow.Author.Tests.{le-leb, lt-leb}
use Rattle.tree.proofs.leads.keep.Goals as goal

pub bounds-places-m : goal.bounds-places-m
bounds-places-m c =
    c.requires.0 (le-leb _ _ c.if-u-ge-FLAGGED.true)

pub returns-then-u-ge-FLAGGED : goal.returns-then-u-ge-FLAGGED
returns-then-u-ge-FLAGGED c =
    rw (le-leb 2147483648 c.args.u c.if-u-ge-FLAGGED.true) (refl, refl)

pub returns-else-u-ge-FLAGGED : goal.returns-else-u-ge-FLAGGED
returns-else-u-ge-FLAGGED c =
    rw (lt-leb 2147483648 c.args.u c.if-u-ge-FLAGGED.false) (omega arith, refl)
