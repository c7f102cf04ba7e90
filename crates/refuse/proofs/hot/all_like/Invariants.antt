-- `refuse::hot::all_like`: no other was met exactly if all so far are v. Assumes nothing.
use Rattle.std.proofs.Common.{◌≡◌, ◌≤◌, ◌+◌, eqb, get_or}
use Rattle.tally.specs.Tally.{every}
use Rattle.refuse.proofs.hot.all_like.Given as goal

abbrev pub invariant-loop-j : goal.invariant-loop-j
invariant-loop-j l = (l.others ≤ l.j) × (eqb l.others 0 ≡ every (λ k. eqb (get_or l.px (l.from + k) 0) l.v) l.j)
