-- Painting one level: which edgels it turns, and the samples that come of it. Assumes nothing.
-- Definitions: `hits` a word turns the horizontal edgel at a place; `turned_at` an odd number of words do; `running` a sample's state after the n turned edgels left of it; `stacked` a sample after all levels.
use Rattle.std.specs.Prelude.{ℕ, zero, suc, ◌+◌, ◌*◌, ◌/◌, ◌%◌, Bool, ◌&&◌, List, ◌==◌, nat_lt}
use Rattle.tally.specs.Tally.{odd, differ, tally}
use Rattle.matte.specs.Layout.{Layout}
use Rattle.edgel.specs.Edgel.{horizontal, first}
use Rattle.edgel.specs.Word.{code_of, level_of}

module _ (L : Layout) where
  -- a word of level k that is horizontal and starts at the place p (01, Framing, membership, painting)
  unfoldable pub hits : ℕ → ℕ → ℕ → Bool
  hits k p u = level_of L u == k && (horizontal (code_of L u) && p == first (code_of L u))

  -- turned over once for each such word (01, Framing, membership, painting)
  unfoldable pub turned_at : ℕ → List ℕ → ℕ → Bool
  turned_at k ws p = odd (tally (hits k p) ws)

-- f, turned over for each of the n places from lo on that b has
unfoldable pub running : (ℕ → Bool) → Bool → ℕ → ℕ → Bool
running b f lo zero = f
running b f lo (suc n) = differ (running b f lo n) (b (lo + n))

-- how many levels a sample is on at (01, Framing, membership, painting)
unfoldable pub stacked : Layout → ℕ → ℕ → List ℕ → List ℕ → ℕ → ℕ
stacked L w v ks ws i = tally (λ k. running (turned_at L k ws) (nat_lt k v) (i / w * w) (i % w)) ks
