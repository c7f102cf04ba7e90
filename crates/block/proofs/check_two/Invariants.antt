-- `block::check_two` meets its contract: what is left of each payload is to be stirred into its sum so far. Assumes nothing.
use Rattle.std.proofs.Common.{◌≡◌, length}
use Rattle.std.specs.Slice.Iter.{iter_rest}
use Rattle.std.specs.Iterator.Adapters.{zip_first, zip_second}
use Rattle.block.specs.Block.{stirred, check}
use Rattle.block.proofs.check_two.Given as goal

abbrev pub invariant-loop-x : goal.invariant-loop-x
invariant-loop-x l =
    let a = iter_rest (zip_first l.x-iterator) in
    let b = iter_rest (zip_second l.x-iterator) in
    (check l.m l.a ≡ stirred l.first a) × (check l.n l.b ≡ stirred l.second b) × (length a ≡ length b)
