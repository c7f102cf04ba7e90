-- Work bytes set to zero from the front, and the part of them that begins some bytes on. Assumes nothing.
-- Main laws: `cleared_at` each is 0; `cleared_length`, `cleared_rest` the length and the rest are as they were; `part_length`, `part_at` that part's length and bytes; `part_back` bytes past the changed ones are as they were.
use mathlib.Core.Path.{◌≡◌, sym, ap, ◌∙◌}
use mathlib.Core.List.{List, ◌++◌}
use Prim.Native.Nat.{ℕ, ◌+◌, ◌-◌, ◌≤◌, ◌<◌}
use native.Mathlib.Omega.{arith}
use lib.ListN.{length, take, drop, get_or, replicate, length-append, length-drop, length-replicate, get_or-replicate, take-append-drop, get_or-append}
use lib.Seq.{take_all, length-take-le, get_or-drop, drop_at, drop-drop, drop-append-add, drop-append-le}
use Rattle.store.proofs.Splice.{drop_later}

module _ (n : ℕ) (work : List ℕ) where
  abbrev zeros : List ℕ
  zeros = replicate n 0

  pub cleared_at : (i : ℕ) → i < n → get_or (zeros ++ drop n work) i 0 ≡ 0
  cleared_at i h = get_or-append zeros (drop n work) 0 i (rw (length-replicate {A = ℕ} n 0) h) ∙ get_or-replicate n i 0 0 h

  pub cleared_length : n ≤ length work → length (zeros ++ drop n work) ≡ length work
  cleared_length h = omega (arith, length-append zeros (drop n work), length-replicate {A = ℕ} n 0, length-drop n work)

  pub cleared_rest : drop n (zeros ++ drop n work) ≡ drop n work
  cleared_rest = drop_at zeros (drop n work) n (length-replicate {A = ℕ} n 0)

-- ---- a part that begins s bytes on
module _ (s : ℕ) (work : List ℕ) (h : s ≤ length work) where
  abbrev part : List ℕ
  part = take (length work - s) (drop s work)

  part_is : part ≡ drop s work
  part_is = take_all (length work - s) (drop s work) (omega (arith, length-drop s work))

  pub part_length : length part ≡ length work - s
  part_length = ap length part_is ∙ length-drop s work

  pub part_at : (i : ℕ) → get_or part i 0 ≡ get_or work (s + i) 0
  part_at i = ap (λ (l : List ℕ). get_or l i 0) part_is ∙ get_or-drop s work i 0

  -- the part changed before its place u only, and put back: nothing has changed from there on
  pub part_back : (u m : ℕ) (now : List ℕ) → length now ≡ length part → u ≤ length part → s + u ≤ m → drop u now ≡ drop u part
      → drop m (take s work ++ (now ++ drop (length work - s) (drop s work))) ≡ drop m work
  part_back u m now e l g q =
      let r = drop (length work - s) (drop s work) in
      let back = take s work ++ (now ++ r) in
      let t : length (take s work) ≡ s = length-take-le s work h in
      let d : drop (s + u) back ≡ drop (s + u) work =
      ap (λ (z : ℕ). drop (z + u) back) (sym t)
      ∙ drop-append-add (take s work) (now ++ r) u
      ∙ drop-append-le u now r (omega arith)
      ∙ ap (λ (z : List ℕ). z ++ r) q
      ∙ sym (drop-append-le u part r l)
      ∙ ap (drop u) (take-append-drop (length work - s) (drop s work))
      ∙ drop-drop u s work in
      drop_later back work (s + u) m (omega arith) d
