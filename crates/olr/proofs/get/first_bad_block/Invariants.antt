-- `olr::get::first_bad_block` meets its contract: no block passed has a wrong check. Assumes nothing.
use Rattle.std.proofs.Common.{◌≡◌, ℕ, ◌*◌, ◌<◌, not, false}
use Rattle.olr.specs.Read.{check_fits}
use Rattle.olr.proofs.get.first_bad_block.Given as goal

abbrev pub invariant-loop-k : goal.invariant-loop-k
invariant-loop-k l = (j : ℕ) → j < 2 * l.k → not (check_fits l.file j) ≡ false
