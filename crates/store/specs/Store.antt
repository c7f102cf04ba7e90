-- Samples and words as lent memory holds them. Assumes nothing.
-- Definitions: `pairs`, `fours` the numbers of two and of four bytes each; `samples_of` the samples of a buffer, by their width; `sample_end` a number that is past every sample of a width; `places_of` the word places, by
--   their kind; `spare_of`, `spare_samples` the bytes after the last whole number.
use Rattle.std.specs.Prelude.{Bool, cond, List, [], ℕ, ◌*◌, ◌/◌, length, drop}
use Rattle.tally.specs.Tally.{build}
use Rattle.block.specs.Block.{num2, num4}

-- two bytes each, little-endian; an odd last byte is none (02, R-10)
unfoldable pub pairs : List ℕ → List ℕ
pairs l = build (λ i. num2 l (2 * i)) 0 (length l / 2)

-- four bytes each, little-endian; spare bytes at the end are none (02, R-8)
unfoldable pub fours : List ℕ → List ℕ
fours l = build (λ i. num4 l (4 * i)) 0 (length l / 4)

-- two bytes to a sample where `wide`, else the bytes as they are (02, R-10)
abbrev pub samples_of : Bool → List ℕ → List ℕ
samples_of wide l = cond wide (pairs l) l

-- a sample has 16 bits where `wide`, else 8
abbrev pub sample_end : Bool → ℕ
sample_end wide = cond wide 65536 256

-- the words of the byte buffer where `inb`, else the list of numbers (02, R-8)
abbrev pub places_of : Bool → List ℕ → List ℕ → List ℕ
places_of inb words bytes = cond inb (fours bytes) words

-- what a buffer has after its last whole number of m bytes (02, R-8)
abbrev pub spare_of : ℕ → List ℕ → List ℕ
spare_of m l = drop (m * (length l / m)) l

abbrev pub spare_samples : Bool → List ℕ → List ℕ
spare_samples wide l = cond wide (spare_of 2 l) []
