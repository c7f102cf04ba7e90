-- `follow::lead_state` meets its contract. Assumes nothing.
use Rattle.std.proofs.Common.{true, false, sym, ◌∙◌}
use Rattle.follow.proofs.Places.{lead_at_lem}
use Rattle.follow.proofs.lead_state.Goals as goal

pub returns-then-high : goal.returns-then-high
returns-then-high c H p = sym (lead_at_lem H c.args.e true (p ∙ c.if-high.true))

pub returns-else-high : goal.returns-else-high
returns-else-high c H p = rw c.start-heading.ensures (sym (lead_at_lem H c.args.e false (p ∙ c.if-high.false)))
