-- The picture with one value on its border. Assumes nothing.
-- Definitions: `framing` its samples.
use Rattle.std.specs.Prelude.{cond, List, ℕ, get_or}
use Rattle.matte.specs.Picture.{on_border}

-- v on the border, the picture's sample elsewhere (01, Framing)
unfoldable pub framing : ℕ → ℕ → ℕ → List ℕ → ℕ → ℕ
framing w h v px i = cond (on_border w h i) v (get_or px i 0)
