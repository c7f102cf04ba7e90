-- One block of a list of bytes, and the list with other blocks in it. Assumes nothing.
-- Main laws: `at_length` a block has 512 bytes; `at_front` it is the same in lists that begin the same; `at_set` a byte stored in it; `at_byte` its bytes; `with_length`, `with_front`, `with_at`, `with_before`, `with_after` a list with another block at a place;
--   `exchanged_length`, `exchanged_front`, `exchanged_there` two blocks changed places; `lost_there`, `doubled_there` the block after the gap, the block that comes again.
use Rattle.std.proofs.Common.{◌≡◌, ℕ, ◌+◌, ◌-◌, ◌*◌, ◌<◌, ◌≤◌, ltb, ◌≢◌, List, ◌++◌, length, get_or, take, drop, set, sym, ap, ◌∙◌, ap₂, append_assoc, arith, length-append, length-drop, take-append-drop, length-take-le, get_or-drop, get_or-take, take-take, drop-drop, take_at, drop_at, ltb-false, ltb-true}
use lib.Seq.{take-append-le, drop-append-le, drop-append-add, take-set-lt, drop-set-add}
use Rattle.tally.proofs.Test.{by_test}
use Rattle.block.specs.Damage.{block_at, with_block, exchanged, exchanged_at, lost, doubled}

pub at_length : (f : List ℕ) (i : ℕ) → 512 * i + 512 ≤ length f → length (block_at f i) ≡ 512
at_length f i h = length-take-le 512 (drop (512 * i) f) (omega (arith, length-drop (512 * i) f))

-- a block that lies within the first m bytes
in_front : (f : List ℕ) (m i : ℕ) → 512 * i + 512 ≤ m → m ≤ length f → block_at f i ≡ block_at (take m f) i
in_front f m i h k =
    let x = take m f in
    let l : length x ≡ m = length-take-le m f k in
    ap (λ (z : List ℕ). block_at z i) (sym (take-append-drop m f))
    ∙ ap (take 512) (drop-append-le (512 * i) x (drop m f) (omega arith))
    ∙ take-append-le 512 (drop (512 * i) x) (drop m f) (omega (arith, length-drop (512 * i) x))

pub at_front : (f g : List ℕ) (m i : ℕ) → 512 * i + 512 ≤ m → m ≤ length f → m ≤ length g → take m g ≡ take m f → block_at g i ≡ block_at f i
at_front f g m i h k l e = in_front g m i h l ∙ ap (λ (z : List ℕ). block_at z i) e ∙ sym (in_front f m i h k)

-- byte j of block i
pub at_byte : (f : List ℕ) (i j : ℕ) → j < 512 → get_or (block_at f i) j 0 ≡ get_or f (512 * i + j) 0
at_byte f i j h = get_or-take 512 (drop (512 * i) f) j 0 h ∙ get_or-drop (512 * i) f j 0

pub at_set : (f : List ℕ) (i j v : ℕ) → j < 512 → block_at (set f (512 * i + j) v) i ≡ set (block_at f i) j v
at_set f i j v h = ap (take 512) (drop-set-add (512 * i) f j v) ∙ take-set-lt 512 (drop (512 * i) f) j v h

module _ (f : List ℕ) (i : ℕ) (b : List ℕ) (there : 512 * i + 512 ≤ length f) where
  front : length (take (512 * i) f) ≡ 512 * i
  front = length-take-le (512 * i) f (omega arith)

  pub with_front : (m : ℕ) → m ≤ 512 * i → take m (with_block f i b) ≡ take m f
  with_front m h =
      take-append-le m (take (512 * i) f) (b ++ drop (512 * i + 512) f) (omega (arith, front)) ∙ take-take m (512 * i) f h

  module _ (l : length b ≡ 512) where
    pub with_length : length (with_block f i b) ≡ length f
    with_length =
        length-append (take (512 * i) f) (b ++ drop (512 * i + 512) f)
        ∙ omega (arith, front, length-append b (drop (512 * i + 512) f), length-drop (512 * i + 512) f)

    pub with_at : block_at (with_block f i b) i ≡ b
    with_at =
        ap (take 512) (drop_at (take (512 * i) f) (b ++ drop (512 * i + 512) f) (512 * i) front) ∙ take_at b (drop (512 * i + 512) f) 512 l

    pub with_before : (k : ℕ) → k < i → block_at (with_block f i b) k ≡ block_at f k
    with_before k h = at_front f (with_block f i b) (512 * i) k (omega arith) (omega arith) (omega (arith, with_length)) (with_front (512 * i) (omega arith))

    pub with_after : (k : ℕ) → i < k → block_at (with_block f i b) k ≡ block_at f k
    with_after k h =
        let x = take (512 * i) f ++ b in
        let lx : length x ≡ 512 * i + 512 = length-append (take (512 * i) f) b ∙ omega (arith, front) in
        let n : 512 * k ≡ length x + (512 * k - (512 * i + 512)) = omega arith in
        let m : 512 * i + 512 + (512 * k - (512 * i + 512)) ≡ 512 * k = omega arith in
        ap (take 512)
        (ap₂ (λ (c : ℕ) (y : List ℕ). drop c y) n (sym (append_assoc (take (512 * i) f) b (drop (512 * i + 512) f)))
        ∙ drop-append-add x (drop (512 * i + 512) f) (512 * k - (512 * i + 512))
        ∙ drop-drop (512 * k - (512 * i + 512)) (512 * i + 512) f
        ∙ ap (λ (c : ℕ). drop c f) m)

module _ (f : List ℕ) (i j : ℕ) (p : 512 * i + 512 ≤ length f) (q : 512 * j + 512 ≤ length f) where
  abbrev one : List ℕ
  one = with_block f i (block_at f j)

  one_length : length one ≡ length f
  one_length = with_length f i (block_at f j) p (at_length f j q)

  still : 512 * j + 512 ≤ length one
  still = omega (arith, one_length)

  pub exchanged_length : length (exchanged f i j) ≡ length f
  exchanged_length = with_length one j (block_at f i) still (at_length f i p) ∙ one_length

  pub exchanged_front : take (512 * exchanged_at i j) (exchanged f i j) ≡ take (512 * exchanged_at i j) f
  exchanged_front =
      with_front one j (block_at f i) still (512 * exchanged_at i j) (omega arith) ∙ with_front f i (block_at f j) p (512 * exchanged_at i j) (omega arith)

  -- at the smaller number stands the other block
  pub exchanged_there : i ≢ j → (k : ℕ) × (512 * k + 512 ≤ length f) × (k ≢ exchanged_at i j) × (block_at (exchanged f i j) (exchanged_at i j) ≡ block_at f k)
  exchanged_there d =
      by_test (ltb i j)
      (λ t.
      let h : i < j = ltb-true i j t in
      let m : exchanged_at i j ≡ i = omega arith in (
        j,
        q,
        (λ z. omega arith),
        ap (block_at (exchanged f i j)) m ∙ with_before one j (block_at f i) still (at_length f i p) i h ∙ with_at f i (block_at f j) p (at_length f j q),
      ))
      (λ t.
      let h : j ≤ i = ltb-false i j t in
      let m : exchanged_at i j ≡ j = omega arith in (
        i,
        p,
        (λ z. omega arith),
        ap (block_at (exchanged f i j)) m ∙ with_at one j (block_at f i) still (at_length f i p),
      ))

module _ (f : List ℕ) (i : ℕ) where
  pub lost_length : 512 * i + 512 ≤ length f → length (lost f i) + 512 ≡ length f
  lost_length h =
      ap (λ (n : ℕ). n + 512) (length-append (take (512 * i) f) (drop (512 * i + 512) f)) ∙ omega (arith, length-take-le (512 * i) f (omega arith), length-drop (512 * i + 512) f)

  pub lost_front : 512 * i ≤ length f → take (512 * i) (lost f i) ≡ take (512 * i) f
  lost_front h = take_at (take (512 * i) f) (drop (512 * i + 512) f) (512 * i) (length-take-le (512 * i) f h)

  pub lost_there : 512 * i ≤ length f → block_at (lost f i) i ≡ block_at f (i + 1)
  lost_there h =
      ap (take 512)
      (drop_at (take (512 * i) f) (drop (512 * i + 512) f) (512 * i) (length-take-le (512 * i) f h)
      ∙ ap (λ (n : ℕ). drop n f) (let e : 512 * i + 512 ≡ 512 * (i + 1) = omega arith in e))

  module _ (h : 512 * i + 512 ≤ length f) where
    pub doubled_length : length (doubled f i) ≡ length f + 512
    doubled_length = length-append (take (512 * i + 512) f) (drop (512 * i) f) ∙ omega (arith, length-take-le (512 * i + 512) f h, length-drop (512 * i) f)

    pub doubled_front : take (512 * (i + 1)) (doubled f i) ≡ take (512 * (i + 1)) f
    doubled_front =
        let e : 512 * (i + 1) ≡ 512 * i + 512 = omega arith in
        ap (λ (n : ℕ). take n (doubled f i)) e
        ∙ take_at (take (512 * i + 512) f) (drop (512 * i) f) (512 * i + 512) (length-take-le (512 * i + 512) f h)
        ∙ ap (λ (n : ℕ). take n f) (sym e)

    pub doubled_there : block_at (doubled f i) (i + 1) ≡ block_at f i
    doubled_there =
        let e : 512 * (i + 1) ≡ 512 * i + 512 = omega arith in
        ap (take 512)
        (ap (λ (n : ℕ). drop n (doubled f i)) e ∙ drop_at (take (512 * i + 512) f) (drop (512 * i) f) (512 * i + 512) (length-take-le (512 * i + 512) f h))
