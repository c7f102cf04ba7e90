-- The samples of the picture with one value on its border. Assumes nothing.
-- Main laws: `framing_on`, `framing_off` the value at a border place and elsewhere; `filled_run` a run written at once; `row_ends` a row copied whole, then its ends written over; `framed_list` written whole, it is the framed picture.
use mathlib.Core.Path.{◌≡◌, sym, ap, ◌∙◌}
use mathlib.Core.Bool.{Bool, true, false, cond}
use mathlib.Core.List.{List, ◌++◌}
use Prim.Native.Nat.{ℕ, ◌+◌, ◌-◌, ◌*◌, ◌≤◌, ◌<◌}
use native.Mathlib.Omega.{arith}
use lib.Dec.{eqb, ltb}
use Rattle.std.proofs.Common.{rules}
use Rattle.std.proofs.lemmas.List.{places}
use borrow.Rule.Slice.PartMut.{put_mid}
use lib.ListN.{length, get_or, drop, set, length-set}
use lib.Seq.{get_or-set_same, get_or-set_other}
use borrow.Author.Tests.{eqb-true, eqb-false, ltb-true, ltb-false, lt-ltb, le-ltb}
use Rattle.tally.specs.Tally.{build}
use Rattle.tally.proofs.Test.{by_test}
use Rattle.fill.specs.Filled.{Filled}
use Rattle.fill.proofs.Fills.{filled_list}
use Rattle.matte.specs.Layout.{eight}
use Rattle.matte.specs.Picture.{picture, on_border}
use Rattle.frame.specs.Frame.{border_samples, median, framed}
use Rattle.frame.specs.Framing.{framing}

module _ (w h v : ℕ) (px : List ℕ) (i : ℕ) where
  pub framing_on : on_border w h i ≡ true → v ≡ framing w h v px i
  unfolding framing
  framing_on e = sym (ap (λ (b : Bool). cond b v (get_or px i 0)) e)

  pub framing_off : on_border w h i ≡ false → get_or px i 0 ≡ framing w h v px i
  unfolding framing
  framing_off e = sym (ap (λ (b : Bool). cond b v (get_or px i 0)) e)

-- a run written at once, up to n
module _ (f : ℕ → ℕ) (d e ys : List ℕ) (a k n : ℕ) where
  pub filled_run : Filled f d a e → a + k ≡ n → n ≤ length e → length ys ≡ k → ((j : ℕ) → a ≤ j → j < n → get_or ys (j - a) 0 ≡ f j) → Filled f d n (put_mid a k e ys)
  filled_run U end room long h = record {
    long = search (rules, places, U.long);
    done = λ j l. by_test (ltb j a)
        (λ t. let p : j < a = ltb-true j a t in let m : get_or (put_mid a k e ys) j 0 ≡ get_or e j 0 = search (rules, places) in m ∙ U.done j p)
        (λ t. let p : a ≤ j = ltb-false j a t in let m : get_or (put_mid a k e ys) j 0 ≡ get_or ys (j - a) 0 = search (rules, places) in m ∙ h j p l);
    same = λ j l. let m : get_or (put_mid a k e ys) j 0 ≡ get_or e j 0 = search (rules, places) in m ∙ U.same j (omega arith);
  }

module _ (F P : ℕ → ℕ) (d e₀ e : List ℕ) (i n v : ℕ) (some : i < n) (room : n ≤ length e) (U : Filled F d i e₀) where
  abbrev copied : ℕ → ℕ
  copied j = cond (ltb j i) (F j) (P j)

  before : (j : ℕ) → j < i → copied j ≡ F j
  before j k = ap (λ (b : Bool). cond b (F j) (P j)) (lt-ltb j i k)

  behind : (j : ℕ) → i ≤ j → copied j ≡ P j
  behind j k = ap (λ (b : Bool). cond b (F j) (P j)) (le-ltb j i k)

  begun : Filled copied d i e₀
  begun = record { long = U.long; done = λ j k. U.done j k ∙ sym (before j k); same = U.same }

  module _ (first : v ≡ F i) (inner : (j : ℕ) → i < j → j + 1 < n → P j ≡ F j) (last : v ≡ F (n - 1)) where
    inside : Filled copied d n e → (j : ℕ) → j < n → ((j ≡ i) → ⊥) → ((j ≡ n - 1) → ⊥) → get_or e j 0 ≡ F j
    inside C j k a b =
        C.done j k
        ∙ by_test (ltb j i) (λ t. before j (ltb-true j i t)) (λ t. behind j (ltb-false j i t) ∙ inner j (omega (arith, ltb-false j i t)) (omega arith))

    pub row_ends : ((f : ℕ → ℕ) → Filled f d i e₀ → ((j : ℕ) → i ≤ j → j < n → P j ≡ f j) → Filled f d n e) → Filled F d n (set (set e i v) (n - 1) v)
    row_ends K =
        let C = K copied begun (λ j p q. sym (behind j p)) in
        let m = length-set e i v in
        record {
          long = length-set (set e i v) (n - 1) v ∙ m ∙ C.long;
          done =
              λ j k.
              by_test (eqb j (n - 1))
              (λ t. let s : j ≡ n - 1 = eqb-true j (n - 1) t in rw s (get_or-set_same (set e i v) (n - 1) v 0 (omega (arith, m)) ∙ last))
              (λ t.
              get_or-set_other (set e i v) (n - 1) j v 0 (eqb-false j (n - 1) t)
              ∙ by_test (eqb j i)
              (λ s. let q : j ≡ i = eqb-true j i s in rw q (get_or-set_same e i v 0 (omega arith) ∙ first))
              (λ s. get_or-set_other e i j v 0 (eqb-false j i s) ∙ inside C j k (eqb-false j i s) (eqb-false j (n - 1) t)));
          same =
              λ j k.
              get_or-set_other (set e i v) (n - 1) j v 0 (λ t. absurd (omega arith))
              ∙ get_or-set_other e i j v 0 (λ t. absurd (omega arith))
              ∙ C.same j k;
        }

pub framed_list : (w h v : ℕ) (px d e : List ℕ) → v ≡ median eight (border_samples (picture w h px)) → w * h ≤ length d → Filled (framing w h v px) d (w * h) e
    → e ≡ framed eight (picture w h px) ++ drop (w * h) d
unfolding framed framing
framed_list w h v px d e q l U =
    filled_list (framing w h v px) d (w * h) e U l
    ∙ ap (λ (z : ℕ). build (framing w h z px) 0 (w * h) ++ drop (w * h) d) q
