-- `paint::in_span` meets its contract. Assumes nothing.
use Rattle.std.proofs.Common.{refl}
use Rattle.paint.specs.Span.{in_span}
use Rattle.paint.proofs.in_span.Goals as goal

pub returns : goal.returns
unfolding in_span
returns c = refl
