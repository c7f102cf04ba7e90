-- The widths, said once: how large a sample is, how many codes and levels a word has room for, how many samples a picture may have. Assumes nothing.
-- Definitions: `Layout` the widths and the sample limit; `eight`, `ten` their values for eight-bit and ten-bit scans; `layout_of` the one of a width; `flag` what marks the first word of a line.
use Rattle.std.specs.Prelude.{Bool, cond, ℕ, ◌*◌}

-- samples are at most `most`, so levels are below it; codes are below `codes`; a word's level is below `levels` (01, Picture, levels, edgels); a picture has at most `samples` samples (02, R-10)
pub record Layout : Type 0 where
  pub most : ℕ
  pub codes : ℕ
  pub levels : ℕ
  pub samples : ℕ

-- bytes; 2^23 codes, 2^8 levels (01, Picture, levels, edgels); 2,048 by 2,048 samples are not too many
abbrev pub eight : Layout
eight = record { most = 255; codes = 8388608; levels = 256; samples = 4194304 }

-- samples 0 to 1,023; codes of 21 bits, levels of 10; at most 1,048,576 samples (02, R-10)
abbrev pub ten : Layout
ten = record { most = 1023; codes = 2097152; levels = 1024; samples = 1048576 }

-- that of wide samples, or of bytes
abbrev pub layout_of : Bool → Layout
layout_of wide = cond wide ten eight

-- added to the first word of a line: past every code and level (01, Picture, levels, edgels)
abbrev pub flag : Layout → ℕ
flag L = L.codes * L.levels
