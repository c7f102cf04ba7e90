-- The check of small payloads, worked out: what an edit of the sum makes false shows here, and where the check stops telling. Assumes nothing.
-- Definitions: `full` bytes whose sum in block 0 has all 32 bits set; `two k a b` the byte a, and b k bytes further on; `seen` the first block whose check is wrong; `three` blocks of one payload.
-- Main laws: `check_worked` in blocks 0, 1 and 2, in block 2^31, whose high bit comes round, and in block 2^32 + 1, which counts as block 1; `exchanged_worked` three blocks of one payload, two of them changed places, `smaller_worked` and
--   the number foretold; `smallest_missed` two neighbouring bytes that the check does not tell; `near_missed`, `far_missed` two bytes 1 to 7 and 25 to 31 apart, the first changed by 2 or more; `round_missed` two bytes 32 apart changed over;
--   `by_one_missed` two bytes 8 to 24 apart, the first changed by 1.
use Rattle.std.proofs.Common.{◌≡◌, ℕ, ◌+◌, ◌-◌, ◌^◌, not, List, [], ◌∷◌, ◌++◌, map, replicate, refl}
use Rattle.tally.specs.Tally.{build, first_from}
use Rattle.block.specs.Block.{stirred, check, pad, block}
use Rattle.block.specs.Damage.{block_at, block_fits, exchanged, exchanged_at}

pub check_worked : map (λ n. check n (7 ∷ 9 ∷ [])) (0 ∷ 1 ∷ 2 ∷ 2147483648 ∷ 4294967297 ∷ []) ≡ 23 ∷ 27 ∷ 31 ∷ 25 ∷ 27 ∷ []
unfolding stirred check
check_worked = refl

-- ---- blocks that changed places
abbrev seen : List ℕ → ℕ → ℕ
seen f m = first_from (λ i. not (block_fits i (block_at f i))) 0 m

abbrev three : List ℕ
three = block 0 (pad []) ++ (block 1 (pad []) ++ block 2 (pad []))

pub exchanged_worked : seen three 3 ∷ seen (exchanged three 0 2) 3 ∷ seen (exchanged three 2 1) 3 ∷ [] ≡ 3 ∷ 0 ∷ 1 ∷ []
unfolding stirred check first_from
exchanged_worked = refl

pub smaller_worked : exchanged_at 0 2 ∷ exchanged_at 2 1 ∷ [] ≡ 0 ∷ 1 ∷ []
smaller_worked = refl

-- ---- damage that is not told
abbrev two : ℕ → ℕ → ℕ → List ℕ
two k a b = a ∷ replicate (k - 1) 0 ++ b ∷ []

pub smallest_missed : check 0 (pad (two 1 1 0)) ≡ check 0 (pad (two 1 0 2))
unfolding stirred check
smallest_missed = refl

abbrev full : List ℕ
full = two 8 255 255 ++ (replicate 7 0 ++ two 8 255 255)

pub near_missed : map (λ k. check 0 (pad (full ++ two k 2 0))) (build (λ k. k) 1 7) ≡ map (λ k. check 0 (pad (full ++ two k 0 (2 ^ k + 1)))) (build (λ k. k) 1 7)
unfolding stirred check build
near_missed = refl

pub far_missed : map (λ k. check 0 (pad (two k (2 ^ (32 - k)) 0))) (build (λ k. k) 25 7) ≡ map (λ k. check 0 (pad (two k 0 1))) (build (λ k. k) 25 7)
unfolding stirred check build
far_missed = refl

pub round_missed : check 0 (pad (two 32 5 0)) ≡ check 0 (pad (two 32 0 5))
unfolding stirred check
round_missed = refl

pub by_one_missed : map (λ k. check 0 (pad (full ++ two k 1 0))) (build (λ k. k) 8 17) ≡ map (λ k. check 0 (pad (full ++ two k 0 1))) (build (λ k. k) 8 17)
unfolding stirred check build
by_one_missed = refl
