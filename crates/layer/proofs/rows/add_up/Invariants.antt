-- `layer::rows::add_up` meets its contract, one sample a turn. Assumes nothing.
use Rattle.std.proofs.Common.{◌≡◌, ◌++◌, ◌%◌, drop}
use Rattle.tally.specs.Tally.{sum}
use Rattle.fill.specs.Filled.{Filled}
use Rattle.layer.specs.Sums.{up_to}
use Rattle.layer.proofs.Bytes.{bytes}
use Rattle.layer.proofs.rows.add_up.Given as goal

abbrev pub invariant-loop-x : goal.invariant-loop-x
invariant-loop-x l =
    Filled (up_to l.fn.room) l.fn.room l.x-index (l.x-items ++ drop l.n l.fn.room) × (l.s ≡ sum (bytes l.fn.room) l.x-index % 256)
