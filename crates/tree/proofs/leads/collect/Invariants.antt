-- `tree::leads::collect`: the leads of the words passed stand in the first places. Assumes nothing.
use Rattle.std.proofs.Common.{◌≡◌, ◌++◌, length, take, drop}
use Rattle.tree.specs.Note.{leads_of}
use Rattle.tree.proofs.leads.collect.Given as goal

abbrev pub invariant-loop-u : goal.invariant-loop-u
invariant-loop-u l =
    (l.m ≡ length (leads_of (take l.u-index l.u-items)))
    × (l.places ≡ leads_of (take l.u-index l.u-items) ++ drop l.m l.fn.places)
