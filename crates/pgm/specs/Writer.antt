-- A picture printed as PGM, in either form: only to say that what is read can be printed and read again. No call writes it. Assumes nothing.
-- Definitions: `numbers_text` numbers in decimal, a blank before each; `raster_text` the samples; `pgm_text` the file.
use Rattle.std.specs.Prelude.{Bool, cond, List, [], ◌∷◌, ◌++◌, ℕ}
use Rattle.form.specs.Decimal.{decimal}
use Rattle.pgm.specs.Grammar.{letter}

-- a blank before each number
unfoldable pub numbers_text : List ℕ → List ℕ
numbers_text [] = []
numbers_text (v ∷ vs) = 32 ∷ (decimal v ++ numbers_text vs)

-- P2: in decimal; P5: the samples as they are (02, R-6)
abbrev pub raster_text : Bool → List ℕ → List ℕ
raster_text plain px = cond plain (numbers_text px) px

-- "P2" or "P5", width, height, maximum, a newline, the samples (02, R-6)
unfoldable pub pgm_text : Bool → ℕ → ℕ → ℕ → List ℕ → List ℕ
pgm_text plain w h m px = 80 ∷ letter plain ∷ (numbers_text (w ∷ h ∷ m ∷ []) ++ (10 ∷ raster_text plain px))
