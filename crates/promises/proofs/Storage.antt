-- What else storage may rely on: an accepted file f, damaged in other ways. Assumes nothing.
-- Main laws: refused as 13 with the number of the block: `over_refused` a block that stands over another; `lost_refused` a block left out before the last; `doubled_refused` a block there twice; `zeroed_refused` a block of zeros; `check_refused`
--   check bytes changed; `near_refused`, `two_refused` two bytes of one payload; `burst_refused` up to eight bits in a row. Refused as 14: `cut_refused` a file cut at a block; `first_zeroed_refused` block 0 as zeros. Refused as 12:
--   `short_refused` a file cut elsewhere; `empty_refused` one of no bytes. `longer_refused` a file with more behind it is refused. `levels_missed`, `levels_taken` an accepted file that
--   two changed bytes make another accepted one.
use mathlib.Core.Path.{◌≡◌, refl, sym, ap, ap₂, ◌∙◌}
use mathlib.Core.Bool.{true, false}
use mathlib.Core.List.{List, [], ◌∷◌, ◌++◌}
use mathlib.Core.Logic.{◌≢◌}
use Prim.Native.Nat.{ℕ, suc, ◌+◌, ◌*◌, ◌/◌, ◌%◌, ◌≤◌, ◌<◌}
use native.Mathlib.Omega.{arith}
use lib.Dec.{eqb}
use lib.ListN.{length, get_or, take, drop, set, replicate, length-set}
use lib.Seq.{take-set-le, drop-set-add, length-take-le}
use borrow.Author.Tests.{eqb-true, eqb-false}
use Rattle.tally.specs.Tally.{apart, tally, build, first_at, first_from}
use Rattle.tally.proofs.Test.{by_test}
use Rattle.matte.specs.Picture.{ascend}
use Rattle.block.specs.Block.{stirred, check}
use Rattle.block.specs.Damage.{block_at, block_fits, with_block, lost, doubled}
use Rattle.block.proofs.Bytes.{Below, below_take, below_drop}
use Rattle.block.proofs.Damage.{check_changed, byte_changed, zeros_told}
use Rattle.block.proofs.Changed.{near_changed, two_changed}
use Rattle.block.proofs.Burst.{burst_changed}
use Rattle.block.proofs.Place.{at_length, at_byte, at_set, with_length, with_front, with_at, lost_length, lost_front, lost_there, doubled_length, doubled_front, doubled_there}
use Rattle.olr.specs.File.{word_blocks, file}
use Rattle.olr.specs.Read.{blocks, file_words, laid_out, read_verdict}
use Rattle.olr.proofs.Damage as olr
use Rattle.promises.specs.Storage.{RefusedAs}
use Rattle.promises.proofs.BadBlock.{later, right, block_refused, elsewhere_refused}

module _ (f places : List ℕ) (done : (read_verdict f places).number ≡ 0) where
  -- ---- whole blocks
  -- block j stands over block i
  pub over_refused : (i j : ℕ) → i < blocks f → j < blocks f → i ≢ j → RefusedAs (with_block f i (block_at f j)) 13 i
  over_refused i j h k d =
      let S = right f places done in
      let there : 512 * i + 512 ≤ length f = omega arith in
      let b = at_length f j (omega arith) in
      let l = with_length f i (block_at f j) there b in
      elsewhere_refused f places done (with_block f i (block_at f j)) i j (ap (λ (m : ℕ). m % 512) l ∙ S.whole) (omega (arith, l)) (omega arith) (with_front f i (block_at f j) there (512 * i) (omega arith)) k (λ z. d (sym z))
      (with_at f i (block_at f j) there b)

  pub lost_refused : (i : ℕ) → i + 1 < blocks f → RefusedAs (lost f i) 13 i
  lost_refused i h =
      let S = right f places done in
      let l = lost_length f i (omega arith) in
      elsewhere_refused f places done (lost f i) i (i + 1) (omega (arith, l, S.whole)) (omega (arith, l, S.whole)) (omega arith) (lost_front f i (omega arith)) h (λ z. omega arith) (lost_there f i (omega arith))

  pub doubled_refused : (i : ℕ) → i < blocks f → RefusedAs (doubled f i) 13 (i + 1)
  doubled_refused i h =
      let S = right f places done in
      let there : 512 * i + 512 ≤ length f = omega arith in
      let l = doubled_length f i there in
      elsewhere_refused f places done (doubled f i) (i + 1) i (omega (arith, l, S.whole)) (omega (arith, l, S.whole)) (omega arith) (doubled_front f i there) h (λ z. omega arith) (doubled_there f i there)

  -- any other bytes as block i, with a wrong check
  with_refused : (i : ℕ) (b : List ℕ) → i < blocks f → length b ≡ 512 → block_fits i b ≡ false → RefusedAs (with_block f i b) 13 i
  with_refused i b h m e =
      let S = right f places done in
      let there : 512 * i + 512 ≤ length f = omega arith in
      let l = with_length f i b there m in
      block_refused f places done (with_block f i b) i (ap (λ (n : ℕ). n % 512) l ∙ S.whole) (omega (arith, l)) (omega arith) (with_front f i b there (512 * i) (omega arith)) (ap (block_fits i) (with_at f i b there m) ∙ e)

  pub zeroed_refused : (i : ℕ) → 0 < i → i < blocks f → RefusedAs (with_block f i (replicate 512 0)) 13 i
  zeroed_refused i h k = with_refused i (replicate 512 0) k refl (zeros_told i (omega (arith, (right f places done).few)) (λ z. omega arith))

  pub first_zeroed_refused : RefusedAs (with_block f 0 (replicate 512 0)) 14 0
  first_zeroed_refused out =
      let g = with_block f 0 (replicate 512 0) in
      olr.refused_told g out 14 0 (λ z. omega arith) (olr.zeroed_refused f places done (drop 1 (later g out)))

  -- ---- cut and grown files
  pub cut_refused : (m : ℕ) → 0 < m → m < blocks f → RefusedAs (take (512 * m) f) 14 0
  cut_refused m h k out =
      let g = take (512 * m) f in
      olr.refused_told g out 14 0 (λ z. omega arith) (olr.cut_refused f places done m h k (drop 1 (later g out)))

  pub short_refused : (n : ℕ) → n ≤ length f → n % 512 ≢ 0 → RefusedAs (take n f) 12 0
  short_refused n h d out =
      olr.refused_told (take n f) out 12 0 (λ z. omega arith) (olr.short_refused (take n f) (later (take n f) out) (λ z. d (ap (λ (m : ℕ). m % 512) (sym (length-take-le n f h)) ∙ z)))

  pub longer_refused : (e out : List ℕ) → 0 < length e → (read_verdict (f ++ e) out).number ≢ 0
  longer_refused = olr.longer_refused f places done

  -- ---- bytes
  module _ (bytes : Below 256 f) where
    bytes_at : (b : ℕ) → Below 256 (block_at f b)
    bytes_at b = below_take 256 512 (drop (512 * b) f) (below_drop 256 (512 * b) f bytes)

    pub check_refused : (i : ℕ) (b : List ℕ) → i < blocks f → length b ≡ 512 → Below 256 b → take 508 b ≡ take 508 (block_at f i) → b ≢ block_at f i → RefusedAs (with_block f i b) 13 i
    check_refused i b h m p e d =
        with_refused i b h m (check_changed i (block_at f i) b (at_length f i (omega arith)) m (bytes_at i) p (sym e) (λ z. d (sym z)) ((right f places done).fits i h))

    -- byte n becomes v, and byte n + k becomes u
    module _ (n k v u : ℕ) where
      abbrev pub struck : List ℕ
      struck = set (set f n v) (n + k) u

      struck_length : length struck ≡ length f
      struck_length = length-set (set f n v) (n + k) u ∙ length-set f n v

      -- both in one block
      struck_at : n % 512 + k < 512 → block_at struck (n / 512) ≡ set (set (block_at f (n / 512)) (n % 512) v) (n % 512 + k) u
      struck_at h =
          let b = n / 512 in
          let i = n % 512 in
          let p : n ≡ 512 * b + i = omega arith in
          let q : n + k ≡ 512 * b + (i + k) = omega arith in
          ap₂ (λ (x y : ℕ). block_at (set (set f x v) y u) b) p q
          ∙ at_set (set f (512 * b + i) v) b (i + k) u h
          ∙ ap (λ (c : List ℕ). set c (i + k) u) (at_set f b i v (omega arith))

      struck_byte : (m : ℕ) → n % 512 + m < 512 → get_or (block_at f (n / 512)) (n % 512 + m) 0 ≡ get_or f (n + m) 0
      struck_byte m h =
          let p : 512 * (n / 512) + (n % 512 + m) ≡ n + m = omega arith in
          at_byte f (n / 512) (n % 512 + m) h ∙ ap (λ (x : ℕ). get_or f x 0) p

      struck_refused : n < length f → block_fits (n / 512) (block_at struck (n / 512)) ≡ false → RefusedAs struck 13 (n / 512)
      struck_refused h e =
          let S = right f places done in
          block_refused f places done struck (n / 512) (ap (λ (m : ℕ). m % 512) struck_length ∙ S.whole) (omega (arith, struck_length, S.whole)) (omega arith)
          (take-set-le (512 * (n / 512)) (set f n v) (n + k) u (omega arith) ∙ take-set-le (512 * (n / 512)) f n v (omega arith))
          e

      module _ (h : n < length f) (hv : v < 256) (hu : u < 256) where
        -- the block that is hit, and the place of the first byte in it
        abbrev here : ℕ
        here = n / 512

        abbrev inside : ℕ
        inside = n % 512

        abbrev hit : List ℕ
        hit = block_at f here

        long : length hit ≡ 512
        long = at_length f here (omega (arith, (right f places done).whole))

        fits : block_fits here hit ≡ true
        fits = (right f places done).fits here (omega (arith, (right f places done).whole))

        first_byte : get_or hit inside 0 ≡ get_or f n 0
        first_byte =
            let p : 512 * here + inside ≡ n = omega arith in
            at_byte f here inside (omega arith) ∙ ap (λ (x : ℕ). get_or f x 0) p

        -- 8 to 24 bytes apart in one payload, the first changed by 2 or more
        pub two_refused : 8 ≤ k → k ≤ 24 → n % 512 + k < 508 → 2 ≤ apart (get_or f n 0) v → RefusedAs struck 13 (n / 512)
        two_refused lo hi e d =
            struck_refused h
            (ap (block_fits here) (struck_at (omega arith))
            ∙ two_changed hit inside (inside + k) v u long (omega arith) e here (bytes_at here) hv hu (omega (arith, d, first_byte)) (omega arith) (omega arith) fits)

        -- neighbours in one payload, the second changed by at most twice the first, less 2
        pub near_refused : k ≡ 1 → n % 512 + k < 508 → apart (get_or f (n + k) 0) u + 2 ≤ 2 * apart (get_or f n 0) v → RefusedAs struck 13 (n / 512)
        near_refused q e d =
            struck_refused h
            (ap (block_fits here) (struck_at (omega arith))
            ∙ near_changed hit inside (inside + k) v u long (omega arith) e here (bytes_at here) hv hu (omega arith) (rw (struck_byte k (omega arith), first_byte) d) fits)

        -- the second byte stands in the next block
        over_edge : k ≡ 1 → inside ≡ 511 → block_at struck here ≡ set hit inside v
        over_edge q e =
            let p : n ≡ 512 * here + inside = omega arith in
            let w : n + k ≡ 512 * here + 512 = omega arith in
            ap (λ (x : ℕ). block_at (set (set f n v) x u) here) w
            ∙ ap (take 512) (drop-set-add (512 * here) (set f n v) 512 u)
            ∙ take-set-le 512 (drop (512 * here) (set f n v)) 512 u (omega arith)
            ∙ ap (λ (x : ℕ). block_at (set f x v) here) p
            ∙ at_set f here inside v (omega arith)

        -- up to eight bits in a row, anywhere: the first byte changes by a multiple of p, the next keeps its quotient by p, where p is a power of 2
        pub burst_refused : k ≡ 1 → (p : ℕ) → 1 ≤ p → get_or f n 0 ≢ v → get_or f n 0 % p ≡ v % p → get_or f (n + k) 0 / p ≡ u / p → RefusedAs struck 13 (n / 512)
        burst_refused q p some d e g =
            struck_refused h
            (by_test (eqb inside 511)
            (λ t. ap (block_fits here) (over_edge q (eqb-true inside 511 t)) ∙ byte_changed hit inside v long (bytes_at here) hv (λ z. d (sym (z ∙ first_byte))) here fits (omega arith))
            (λ t.
            let m : inside ≢ 511 = eqb-false inside 511 t in
            let s : inside + k ≡ suc inside = omega arith in
            let w : get_or hit (suc inside) 0 ≡ get_or f (n + k) 0 = ap (λ (x : ℕ). get_or hit x 0) (sym s) ∙ struck_byte k (omega arith) in
            ap (block_fits here) (struck_at (omega arith) ∙ ap (λ (x : ℕ). set (set hit inside v) x u) s)
            ∙ burst_changed here hit inside v u p long (bytes_at here) hv hu some (omega arith) (λ z. d (sym first_byte ∙ z)) (ap (λ (x : ℕ). x % p) first_byte ∙ e) (ap (λ (x : ℕ). x / p) w ∙ g) fits))

pub empty_refused : RefusedAs [] 12 0
empty_refused out = (refl, refl)

-- ---- where it stops: a file of levels 1 and 4 with two neighbouring bytes changed is the file of levels 0 and 6
pub levels_missed : set (set (file 2 2 0 (1 ∷ 4 ∷ []) []) 16 0) 17 6 ≡ file 2 2 0 (0 ∷ 6 ∷ []) []
unfolding file word_blocks check stirred
levels_missed = refl

-- and reading takes both
pub levels_taken : (read_verdict (file 2 2 0 (1 ∷ 4 ∷ []) []) []).number ∷ (read_verdict (file 2 2 0 (0 ∷ 6 ∷ []) []) []).number ∷ [] ≡ 0 ∷ 0 ∷ []
unfolding file word_blocks check stirred laid_out file_words build tally first_from first_at ascend
levels_taken = refl
