-- One level added to all rows. Assumes nothing.
-- Definitions: `Rows` what holds after some rows.
-- Main laws: `layer_begin`, `layer_go` row by row; `layered_same` what is added goes by the places alone.
use Rattle.std.proofs.Common.{◌≡◌, ℕ, ◌+◌, ◌-◌, ◌*◌, ◌/◌, ◌%◌, ◌<◌, ◌≤◌, Bool, false, ltb, List, length, get_or, refl, ap, ◌∙◌, zero-mul, div-add-mod', arith, ltb-false, ltb-true}
use lib.Arith.{digits_div, digits_mod}
use Rattle.tally.specs.Tally.{one}
use Rattle.tally.proofs.Test.{by_test}
use Rattle.layer.specs.Layer.{running}
use Rattle.layer.specs.Sums.{up_to, Walked, Layered}
use Rattle.layer.proofs.Bytes.{up_small}
use Rattle.layer.proofs.Walks.{running_same}

-- the rows before lo are done, and the samples from lo on hold `on`
pub record Rows (b : ℕ → Bool) (f : Bool) (w lo : ℕ) (on : Bool) (d e : List ℕ) : Type 0 where
  pub long : length e ≡ length d
  pub done : (i : ℕ) → i < lo → up_to e i ≡ (up_to d i + one (running b f (i / w * w) (i % w))) % 256
  pub far : (i : ℕ) → lo ≤ i → up_to e i ≡ (up_to d i + one on) % 256
  pub rest : (i : ℕ) → lo ≤ i → get_or e i 0 ≡ get_or d i 0

-- from a by way of b to c
settle : (a b c x y : ℕ) → a < 256 → (a + x) % 256 ≡ (b + y) % 256 → b ≡ (c + x) % 256 → a ≡ (c + y) % 256
settle a b c x y h p q = omega arith

module _ (b : ℕ → Bool) (f : Bool) (w : ℕ) (d : List ℕ) where
  pub layer_begin : Rows b f w (0 * w) false d d
  layer_begin = record {
    long = refl;
    done = λ i p. absurd (omega (arith, zero-mul w));
    far = λ i p. omega (arith, up_small d i);
    rest = λ i p. refl;
  }

  pub layer_go : (y : ℕ) (was on : Bool) (e g : List ℕ) → 0 < w → Rows b f w (y * w) was d e → Walked b f (y * w) (y * w + w - 1) was on e g → Rows b f w ((y + 1) * w) on d g
  layer_go y was on e g pos A W =
      let lo = y * w in
      let n : (y + 1) * w ≡ lo + w = omega arith in
      rw n (record {
        long = W.long ∙ A.long;
        done =
            λ i p.
            by_test (ltb i lo)
            (λ t. W.low i (ltb-true i lo t) ∙ A.done i (ltb-true i lo t))
            (λ t.
            let u : lo ≤ i = ltb-false i lo t in
            let r : i - lo < w = omega arith in
            let z : i ≡ lo + (i - lo) = omega arith in
            let q : i / w * w ≡ lo = ap (λ (v : ℕ). v / w * w) z ∙ ap (λ (v : ℕ). v * w) (digits_div y r) in
            let m : i % w ≡ i - lo = ap (λ (v : ℕ). v % w) z ∙ digits_mod y r in
            rw (q, m)
            (settle (up_to g i) (up_to e i) (up_to d i) (one was) (one (running b f lo (i - lo))) (up_small g i) (W.near i u (omega arith)) (A.far i u)));
        far =
            λ i p. settle (up_to g i) (up_to e i) (up_to d i) (one was) (one on) (up_small g i) (W.far i (omega arith)) (A.far i (omega arith));
        rest = λ i p. W.rest i (omega arith) ∙ A.rest i (omega arith);
      })

-- the row of a place stands before it
in_row : (w i j : ℕ) → j < i % w → i / w * w + j < i
in_row w i j h = omega (arith, div-add-mod' i w)

pub layered_same : (a b : ℕ → Bool) (f : Bool) (w n : ℕ) (d e : List ℕ) → ((p : ℕ) → p < n → a p ≡ b p) → Layered a f w n d e → Layered b f w n d e
layered_same a b f w n d e q A = record {
  long = A.long;
  done =
      λ i h.
      A.done i h
      ∙ ap (λ (c : Bool). (up_to d i + one c) % 256)
      (running_same a b f (i / w * w) (i % w) (λ j l. q (i / w * w + j) (omega (arith, in_row w i j l))));
  same = A.same;
}
