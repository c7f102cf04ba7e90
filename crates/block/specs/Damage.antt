-- What storage may do to a file of blocks. Assumes nothing.
-- Definitions: `block_at` one block of a list of bytes; `block_fits` its check is right in the place where it stands; `with_block` the list with another block at a place; `exchanged` two blocks changed places; `exchanged_at` the block
--   that is then refused; `lost`, `doubled` a block left out, a block there twice.
use Rattle.std.specs.Prelude.{ℕ, ◌+◌, ◌*◌, min, Bool, List, ◌++◌, take, drop, ◌==◌}
use Rattle.block.specs.Block.{num4, check}

-- blocks of 512 bytes (01, Outline file)
abbrev pub block_at : List ℕ → ℕ → List ℕ
block_at f i = take 512 (drop (512 * i) f)

-- bytes 508 to 511 are the check of bytes 0 to 507 for a block of this number (01, Outline file)
abbrev pub block_fits : ℕ → List ℕ → Bool
block_fits n b = num4 b 508 == check n (take 508 b)

-- the file with b in place of its block i (02, R-14)
abbrev pub with_block : List ℕ → ℕ → List ℕ → List ℕ
with_block f i b = take (512 * i) f ++ (b ++ drop (512 * i + 512) f)

-- blocks i and j changed places (02, R-14)
abbrev pub exchanged : List ℕ → ℕ → ℕ → List ℕ
exchanged f i j = with_block (with_block f i (block_at f j)) j (block_at f i)

-- the smaller of their numbers (02, R-14)
abbrev pub exchanged_at : ℕ → ℕ → ℕ
exchanged_at i j = min i j

-- block i is left out, and what follows moves up
abbrev pub lost : List ℕ → ℕ → List ℕ
lost f i = take (512 * i) f ++ drop (512 * i + 512) f

-- block i is there twice, and what follows moves down
abbrev pub doubled : List ℕ → ℕ → List ℕ
doubled f i = take (512 * i + 512) f ++ drop (512 * i) f
