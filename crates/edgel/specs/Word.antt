-- Words: a crossing as one number. Assumes nothing.
-- Definitions: `word` of code, level and flag; `code_of`, `level_of`, `flagged` what a word says.
use Rattle.std.specs.Prelude.{Bool, ℕ, ◌+◌, ◌*◌, ◌/◌, ◌%◌, leb}
use Rattle.tally.specs.Tally.{one}
use Rattle.matte.specs.Layout.{Layout, flag}

module _ (L : Layout) where
  -- code + level · 2^23, plus 2^31 on the first word of a line (01, Picture, levels, edgels)
  abbrev pub word : ℕ → ℕ → Bool → ℕ
  word c k b = c + k * L.codes + one b * flag L

  abbrev pub code_of : ℕ → ℕ
  code_of u = u % L.codes

  abbrev pub level_of : ℕ → ℕ
  level_of u = u / L.codes % L.levels

  abbrev pub flagged : ℕ → Bool
  flagged u = leb (flag L) u
