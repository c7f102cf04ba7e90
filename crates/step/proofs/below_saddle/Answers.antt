-- `step::below_saddle` meets its contract. Assumes nothing.
use Rattle.cell.specs.Turn.{saddle}
use Rattle.step.proofs.below_saddle.Goals as goal

pub returns : goal.returns
unfolding saddle
returns g c =
    rw (c.from.ensures, c.from-a.ensures, c.from-b.ensures, c.from-c.ensures, c.from-d.ensures, c.number.ensures, c.number-2.ensures, c.number-3.ensures, c.number-4.ensures, c.number-5.ensures)
