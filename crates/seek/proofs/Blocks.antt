-- Blocks of 64 places: which of them hold no fresh place, and the first fresh place in them. Assumes nothing.
-- Definitions: `Finding` the first fresh place of a block among those looked at.
-- Main laws: `any_none`, `any_go` whether one of many tests passes; `first_found`, `first_none` the first number that passes; `none_in` a block with none;
--   `stale_on` some places more that are not fresh, `stale_next` those of slots that are not live; `or_found`, `or_none`, `or_skip` the first of a run; `or_first` it is the first of all, `or_bare` or none is fresh yet.
use mathlib.Core.Path.{◌≡◌, refl, sym, ap, ◌∙◌}
use mathlib.Core.Bool.{Bool, true, false, not, ◌&&◌, ◌||◌, cond}
use mathlib.Core.List.{List}
use Prim.Native.Nat.{ℕ, ◌+◌, ◌-◌, ◌*◌, ◌/◌, ◌%◌, ◌≤◌, ◌<◌}
use native.Mathlib.Numerals.{add-one}
use native.Mathlib.Omega.{arith}
use lib.Dec.{ltb, leb}
use lib.ListN.{get_or}
use borrow.Author.Tests.{leb-false, ltb-true, ltb-false, lt-ltb, le-ltb, not-true}
use Rattle.tally.specs.Tally.{differ, every, first_from}
use Rattle.tally.proofs.Test.{by_test, no, both, differ_self}
use Rattle.tally.proofs.First.{from_before, from_passes, from_is, from_over}
use Rattle.tally.proofs.Every.{every_none, every_more, every_at}
use Rattle.seek.specs.Search.{fresh, slot, reach, Bounds, Slots, live_at, FirstIn, Stale, first_or}
use Rattle.seek.proofs.Slots.{slot_at, low_under, high_over}

module _ (px : List ℕ) (four : Bool) where
  -- two samples on one side of the level
  same_side : (k a b : ℕ) → ltb k a ≡ ltb k b → differ (ltb k a) (ltb k b) ≡ false
  same_side k a b e = ap (λ (z : Bool). differ z (ltb k b)) e ∙ differ_self (ltb k b)

  stale_if : (x y : Bool) → x ≡ false → (x && y) ≡ false
  stale_if true y e = no refl e
  stale_if false y e = refl

  dead_block : (work lo hi : List ℕ) (k mk b slots : ℕ) → Bounds px lo false four slots → Bounds px hi true four slots → slot four b < slots → live_at lo hi k (slot four b) ≡ false
      → (i : ℕ) → i < 64 → fresh px work k mk (64 * b + i) ≡ false
  dead_block work lo hi k mk b slots A Z h e i l =
      let s : 64 * b + i + 1 ≡ 64 * b + (i + 1) = omega arith in
      let c = slot four b in
      let a₀ = low_under px four b slots h i (omega arith) lo A in
      let z₀ = high_over px four b slots h i (omega arith) hi Z in
      let a₁ : get_or lo c 0 ≤ get_or px (64 * b + i + 1) 0 = rw s (low_under px four b slots h (i + 1) (omega arith) lo A) in
      let z₁ : get_or px (64 * b + i + 1) 0 ≤ get_or hi c 0 = rw s (high_over px four b slots h (i + 1) (omega arith) hi Z) in
      stale_if (differ (ltb k (get_or px (64 * b + i) 0)) (ltb k (get_or px (64 * b + i + 1) 0))) _
      (same_side k (get_or px (64 * b + i) 0) (get_or px (64 * b + i + 1) 0)
      (by_test (leb (get_or lo c 0) k)
      (λ t. by_test (ltb k (get_or hi c 0))
      (λ u. no (both t u) e)
      (λ u.
      let v : get_or hi c 0 ≤ k = ltb-false k (get_or hi c 0) u in
      le-ltb k (get_or px (64 * b + i) 0) (omega arith) ∙ sym (le-ltb k (get_or px (64 * b + i + 1) 0) (omega arith))))
      (λ t.
      let v : k < get_or lo c 0 = leb-false (get_or lo c 0) k t in
      lt-ltb k (get_or px (64 * b + i) 0) (omega arith) ∙ sym (lt-ltb k (get_or px (64 * b + i + 1) 0) (omega arith)))))

not_both : (x y : Bool) → (not x || y) ≡ not (x && not y)
not_both true true = refl
not_both true false = refl
not_both false y = refl

-- whether some test passes: of none, and of one test more
pub any_none : (p : ℕ → Bool) → false ≡ not (every p 0)
any_none p = ap not (sym (every_none p))

pub any_go : (p : ℕ → Bool) (i : ℕ) (any v : Bool) → any ≡ not (every (λ j. not (p j)) i) → v ≡ p i → (any || v) ≡ not (every (λ j. not (p j)) (i + 1))
any_go p i any v e h =
    let q : ℕ → Bool = λ j. not (p j) in
    ap (λ (z : Bool). z || v) e ∙ ap (λ (z : Bool). not (every q i) || z) h ∙ not_both (every q i) (p i) ∙ ap not (sym (ap (every q) (add-one i) ∙ every_more q i))

-- the first number from a on that passes, or none before e does
module _ (p : ℕ → Bool) (a e c : ℕ) where
  pub first_found : a ≤ c → c < e → ((d : ℕ) → d < c → a ≤ d → p d ≡ false) → p c ≡ true → c ≡ first_from p a (e - a)
  first_found h l q t = sym (from_is p a (e - a) c h (omega arith) (λ d x y. q d y x) (λ z. t))

  pub first_none : a ≤ e → e ≤ c → ((d : ℕ) → d < c → a ≤ d → p d ≡ false) → e ≡ first_from p a (e - a)
  first_none h l q = sym (from_is p a (e - a) e h (omega arith) (λ d x y. q d (omega arith) x) (λ z. absurd (omega arith)))

module _ (px work : List ℕ) (k mk a : ℕ) where
  pub record Finding (i m : ℕ) : Type 0 where
    pub most : m ≤ 64
    pub passed : (j : ℕ) → j < i → j < m → fresh px work k mk (a + j) ≡ false
    pub found : m < 64 → (m < i) × (fresh px work k mk (a + m) ≡ true)

  -- none of the 64
  pub none_in : every (λ i. not (fresh px work k mk (a + i))) 64 ≡ true → FirstIn px work k mk a 64
  none_in e =
      record { most = omega arith; passed = λ i c. not-true _ (every_at (λ j. not (fresh px work k mk (a + j))) 64 e i c); found = λ d. absurd (omega arith) }

-- ---- over what is passed
module _ (px work : List ℕ) (k mk : ℕ) where
  abbrev F : ℕ → Bool
  F = fresh px work k mk

  abbrev S : ℕ → ℕ → Type 0
  S = Stale px work k mk

  pub stale_on : (a x n y : ℕ) → y ≡ x + n → S a x → ((i : ℕ) → i < n → F (x + i) ≡ false) → S a y
  stale_on a x n y e z q j g h =
      by_test (ltb j x)
      (λ t. z j g (ltb-true j x t))
      (λ t.
      let u : x ≤ j = ltb-false j x t in
      let v : x + (j - x) ≡ j = omega arith in
      ap F (sym v) ∙ q (j - x) (omega arith))

  -- the first of a run that is fresh, or none
  module _ (a e end : ℕ) (h : a ≤ e) where
    pub or_found : (x : ℕ) → a ≤ x → x < e → S a x → F x ≡ true → x ≡ first_or px work k mk a e end
    or_found x g l z y = let s : first_from F a (e - a) ≡ x = from_is F a (e - a) x g (omega arith) z (λ t. y) in rw (s, lt-ltb x e l) refl

    pub or_none : S a e → end ≡ first_or px work k mk a e end
    or_none z = let s : first_from F a (e - a) ≡ e = from_is F a (e - a) e h (omega arith) z (λ t. absurd (omega arith)) in rw (s, le-ltb e e (omega arith)) refl

    pub or_skip : (b : ℕ) → a ≤ b → b ≤ e → S a b → first_or px work k mk b e end ≡ first_or px work k mk a e end
    or_skip b g l z = ap (λ (f : ℕ). cond (ltb f e) f end) (from_over F a b e g l z)

    module _ (r : ℕ) (l : e ≤ end) (s : r ≡ first_or px work k mk a e end) (z : S 0 a) where
      abbrev f : ℕ
      f = first_from F a (e - a)

      -- found, it is the first of all
      pub or_first : (from : ℕ) → S 0 from → r < end → r ≡ first_from F from (end - from)
      or_first from q u =
          by_test (ltb f e)
          (λ t.
          let v : r ≡ f = s ∙ ap (λ (b : Bool). cond b f end) t in
          let d = ltb-true f e t in
          let y : F f ≡ true = from_passes F a (e - a) (omega (arith, h)) in
          by_test (ltb f from)
          (λ x. no y (q f (omega arith) (ltb-true f from x)))
          (λ x. v
          ∙ sym
          (from_is F from (end - from) f (ltb-false f from x) (omega (arith, ltb-false f from x))
          (λ j g i. by_test (ltb j a)
          (λ w. z j (omega arith) (ltb-true j a w))
          (λ w. from_before F a (e - a) j (ltb-false j a w) i))
          (λ w. y))))
          (λ t. let v : r ≡ end = s ∙ ap (λ (b : Bool). cond b f end) t in absurd (omega arith))

      pub or_bare : end ≤ r → S 0 e
      or_bare u =
          by_test (ltb f e)
          (λ t.
          let v : r ≡ f = s ∙ ap (λ (b : Bool). cond b f end) t in
          absurd (omega (arith, ltb-true f e t)))
          (λ t. λ j g i. by_test (ltb j a)
          (λ w. z j g (ltb-true j a w))
          (λ w. from_before F a (e - a) j (ltb-false j a w) (omega (arith, ltb-false f e t))))

  -- over the slots that are not live
  pub stale_next : (lo hi : List ℕ) (four : Bool) (slots : ℕ) → Slots px lo hi four slots → (c r : ℕ) → r ≤ slots → r ≤ first_from (live_at lo hi k) c (slots - c) → S 0 (reach four c) → S 0 (reach four r)
  stale_next lo hi four slots B c r h e z j g y =
      by_test (ltb j (reach four c))
      (λ t. z j g (ltb-true j (reach four c) t))
      (λ t.
      let u = slot_at four c r j (ltb-false j (reach four c) t) y in
      let s : 64 * (j / 64) + j % 64 ≡ j = omega arith in
      let d = from_before (live_at lo hi k) c (slots - c) (slot four (j / 64)) u.0 (omega (arith, u.1)) in
      ap F (sym s) ∙ dead_block px four work lo hi k mk (j / 64) slots B.lows B.highs (omega (arith, u.1)) d (j % 64) (omega arith))
