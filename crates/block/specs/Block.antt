-- Numbers as bytes, the block check, and blocks. Assumes nothing.
-- Definitions: `le2`, `le4` a number as little-endian bytes; `num2`, `num4` the number of such bytes at a place; `rotate`, `stir`, `check` the sum of a payload; `pad` zeros up to a payload's length; `block`
--   payload and check.
use Rattle.std.specs.Prelude.{ℕ, ◌+◌, ◌-◌, ◌*◌, ◌/◌, ◌%◌, List, [], ◌∷◌, ◌++◌, length, replicate, slice_index}

-- numbers are little-endian (01, Outline file)
abbrev pub le2 : ℕ → List ℕ
le2 n = n % 256 ∷ n / 256 % 256 ∷ []

abbrev pub le4 : ℕ → List ℕ
le4 n = n % 256 ∷ n / 256 % 256 ∷ n / 65536 % 256 ∷ n / 16777216 % 256 ∷ []

abbrev pub num2 : List ℕ → ℕ → ℕ
num2 f i = slice_index f i + slice_index f (i + 1) * 256

abbrev pub num4 : List ℕ → ℕ → ℕ
num4 f i = slice_index f i + slice_index f (i + 1) * 256 + slice_index f (i + 2) * 65536 + slice_index f (i + 3) * 16777216

-- 32 bits rotated left by one (01, Outline file)
abbrev pub rotate : ℕ → ℕ
rotate s = s * 2 % 4294967296 + s / 2147483648

-- for each payload byte rotate, then add the byte modulo 2^32 (01, Outline file)
abbrev pub stir : ℕ → ℕ → ℕ
stir s b = (rotate s + b) % 4294967296

unfoldable pub stirred : ℕ → List ℕ → ℕ
stirred s [] = s
stirred s (b ∷ l) = stirred (stir s b) l

-- started with the block's number modulo 2^32 (01, Outline file)
unfoldable pub check : ℕ → List ℕ → ℕ
check n payload = stirred (n % 4294967296) payload

-- zeros after the last byte, up to 508 (01, Outline file)
abbrev pub pad : List ℕ → List ℕ
pad l = l ++ replicate (508 - length l) 0

-- 508 bytes of payload, 4 of check (01, Outline file)
abbrev pub block : ℕ → List ℕ → List ℕ
block n payload = payload ++ le4 (check n payload)
