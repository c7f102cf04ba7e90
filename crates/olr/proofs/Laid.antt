-- The layout in three parts: the counts, block 0's sides and levels, and the zeros after the last word. Assumes nothing.
-- Definitions: `counts_fit`, `head_fits`, `tail_fits` the parts; `Laid` what the layout says.
-- Main laws: `laid_parts` the layout is the three together; `drop_part` a part of a part; `levels_part`, `after_levels_lem`, `after_none`, `after_words_lem`, `after_some` the bytes that the parts look at; `laid`, `laid_back` the layout by its facts;
--   `laid_holds` the words are all there, `laid_sides` the sides are in range.
use mathlib.Core.Path.{◌≡◌, refl, sym, ap, ap₂, ◌∙◌}
use mathlib.Core.Bool.{Bool, true, false, ◌&&◌, cond}
use mathlib.Core.List.{List, [], ◌∷◌}
use Prim.Native.Nat.{ℕ, zero, suc, ◌+◌, ◌-◌, ◌*◌, ◌%◌, ◌≤◌}
use native.Mathlib.Omega.{arith}
use lib.Dec.{eqb, leb}
use lib.ListN.{take, drop}
use lib.Seq.{drop-drop, take-nil}
use borrow.Author.Tests.{eq-eqb, ne_eqb, eqb-true, leb-true, le-leb}
use Rattle.tally.proofs.Test.{and_1, and_2, both}
use Rattle.matte.specs.Layout.{eight}
use Rattle.matte.specs.Picture.{side_fits, levels_fit}
use Rattle.refuse.specs.Shape.{Sides}
use Rattle.refuse.proofs.Sides.{sides_in}
use Rattle.block.specs.Block.{num2, num4}
use Rattle.olr.specs.File.{limit, letters, blocks_for}
use Rattle.olr.specs.Read.{zeros, blocks, payload, file_width, file_height, file_count, file_word_count, file_levels, after_levels, after_words, laid_out}
use Rattle.olr.specs.Held.{Holds}
use Rattle.olr.proofs.Zeros.{are_zeros}

module _ (f : List ℕ) where
  abbrev pub counts_fit : Bool
  counts_fit = eqb (num4 f 0) (num4 letters 0) && (eqb (num2 f 10) 0 && (leb (file_word_count f) limit && eqb (blocks f) (1 + blocks_for (file_word_count f))))

  abbrev pub head_fits : Bool
  head_fits = (side_fits (file_width f) && side_fits (file_height f)) && (levels_fit eight (file_levels f) && zeros (after_levels f))

  abbrev pub tail_fits : Bool
  tail_fits = zeros (after_words f)

regroup : (a b c d e f g h i : Bool) → (a && (b && (c && (d && (e && (f && (g && (h && i)))))))) ≡ ((a && (b && (c && d))) && (((e && f) && (g && h)) && i))
regroup true true true true true true true true i = refl
regroup true true true true true true true false i = refl
regroup true true true true true true false h i = refl
regroup true true true true true false g h i = refl
regroup true true true true false f g h i = refl
regroup true true true false e f g h i = refl
regroup true true false d e f g h i = refl
regroup true false c d e f g h i = refl
regroup false b c d e f g h i = refl

pub laid_parts : (f : List ℕ) → laid_out f ≡ (counts_fit f && (head_fits f && tail_fits f))
unfolding laid_out
laid_parts f =
    regroup (eqb (num4 f 0) (num4 letters 0)) (eqb (num2 f 10) 0) (leb (file_word_count f) limit) (eqb (blocks f) (1 + blocks_for (file_word_count f))) (side_fits (file_width f)) (side_fits (file_height f))
    (levels_fit eight (file_levels f)) (zeros (after_levels f)) (zeros (after_words f))

pub drop_part : (a b : ℕ) (l : List ℕ) → drop a (take b l) ≡ take (b - a) (drop a l)
drop_part zero b l = ap (λ (n : ℕ). take n l) (let e : b ≡ b - 0 = omega arith in e)
drop_part (suc a) zero l = ap (λ (n : ℕ). take n (drop (suc a) l)) (let e : 0 ≡ 0 - suc a = omega arith in e)
drop_part (suc a) (suc b) [] = sym (take-nil (suc b - suc a))
drop_part (suc a) (suc b) (x ∷ l) = drop_part a b l ∙ ap (λ (n : ℕ). take n (drop a l)) (let e : b - a ≡ suc b - suc a = omega arith in e)

module _ (f : List ℕ) (m : ℕ) (e : m ≡ 16 + file_count f) where
  pub levels_part : take (m - 16) (drop 16 f) ≡ file_levels f
  levels_part = ap (λ (n : ℕ). take n (drop 16 f)) (let d : m - 16 ≡ file_count f = omega arith in d)

  pub after_levels_lem : take (508 - m) (drop m f) ≡ after_levels f
  after_levels_lem = ap (λ (n : ℕ). take (508 - n) (drop n f)) e ∙ sym (drop_part (16 + file_count f) 508 f)

module _ (f : List ℕ) (r : ℕ) (e : r ≡ file_word_count f % 127) where
  pub after_none : r ≡ 0 → true ≡ zeros (after_words f)
  after_none z =
      sym
      (ap (λ (b : Bool). zeros (cond b [] (drop (4 * (file_word_count f % 127)) (payload f (blocks f - 1))))) (eq-eqb (file_word_count f % 127) 0 (sym e ∙ z))
      ∙ are_zeros 0)

  -- where the last block is not full
  pub after_words_lem : (r ≡ 0 → ⊥) → drop (4 * r) (payload f (blocks f - 1)) ≡ after_words f
  after_words_lem z =
      ap (λ (n : ℕ). drop (4 * n) (payload f (blocks f - 1))) e
      ∙ ap (λ (b : Bool). cond b [] (drop (4 * (file_word_count f % 127)) (payload f (blocks f - 1)))) (sym (ne_eqb (file_word_count f % 127) 0 (λ y. z (e ∙ y))))

  pub after_some : (at : ℕ) → at ≡ 512 * (blocks f - 1) → (r ≡ 0 → ⊥) → take (at + 508 - (at + 4 * r)) (drop (at + 4 * r) f) ≡ after_words f
  after_some at q z =
      let d : at + 508 - (at + 4 * r) ≡ 508 - 4 * r = omega arith in
      ap (λ (n : ℕ). take n (drop (at + 4 * r) f)) d
      ∙ ap (take (508 - 4 * r)) (sym (drop-drop (4 * r) at f))
      ∙ sym (drop_part (4 * r) 508 (drop at f))
      ∙ ap (λ (n : ℕ). drop (4 * r) (take 508 (drop n f))) q
      ∙ after_words_lem z

-- what the layout says
pub record Laid (f : List ℕ) : Type 0 where
  pub magic : num4 f 0 ≡ num4 letters 0
  pub spare : num2 f 10 ≡ 0
  pub most : file_word_count f ≤ limit
  pub count : blocks f ≡ 1 + blocks_for (file_word_count f)
  pub sides : (side_fits (file_width f) && side_fits (file_height f)) ≡ true
  pub levels : levels_fit eight (file_levels f) ≡ true
  pub after_level : zeros (after_levels f) ≡ true
  pub after_word : zeros (after_words f) ≡ true

pub laid : (f : List ℕ) → laid_out f ≡ true → Laid f
laid f e =
    let o = sym (laid_parts f) ∙ e in
    let c = and_1 (counts_fit f) (head_fits f && tail_fits f) o in
    let t = and_2 (counts_fit f) (head_fits f && tail_fits f) o in
    let h = and_1 (head_fits f) (tail_fits f) t in
    let a = eqb (num4 f 0) (num4 letters 0) in
    let b = eqb (num2 f 10) 0 in
    let m = leb (file_word_count f) limit in
    let k = eqb (blocks f) (1 + blocks_for (file_word_count f)) in
    let c2 = and_2 a (b && (m && k)) c in
    let c3 = and_2 b (m && k) c2 in
    let s = side_fits (file_width f) && side_fits (file_height f) in
    let l = levels_fit eight (file_levels f) in
    let z = zeros (after_levels f) in
    let h2 = and_2 s (l && z) h in
    record {
      magic = eqb-true _ _ (and_1 a (b && (m && k)) c);
      spare = eqb-true _ _ (and_1 b (m && k) c2);
      most = leb-true _ _ (and_1 m k c3);
      count = eqb-true _ _ (and_2 m k c3);
      sides = and_1 s (l && z) h;
      levels = and_1 l z h2;
      after_level = and_2 l z h2;
      after_word = and_2 (head_fits f) (tail_fits f) t;
    }

pub laid_back : (f : List ℕ) → Laid f → laid_out f ≡ true
laid_back f L =
    laid_parts f
    ∙ both (both (eq-eqb _ _ L.magic) (both (eq-eqb _ _ L.spare) (both (le-leb _ _ L.most) (eq-eqb _ _ L.count))))
    (both (both L.sides (both L.levels L.after_level)) L.after_word)

-- the blocks of the words are all there
pub laid_holds : (f : List ℕ) (n : ℕ) → Laid f → n ≡ file_word_count f → Holds f n
laid_holds f n L e =
    let b : blocks_for n ≡ blocks_for (file_word_count f) = ap blocks_for e in
    record { count = e; most = omega (arith, L.most); there = omega (arith, L.count) }

pub laid_sides : (f : List ℕ) (x y : ℕ) → Laid f → x ≡ file_width f → y ≡ file_height f → Sides x y
laid_sides f x y L p q = sides_in x y (ap₂ (λ (s t : ℕ). side_fits s && side_fits t) p q ∙ L.sides)
