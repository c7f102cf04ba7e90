-- States and codes of horizontal crossings, and the bytes they mark. Assumes nothing.
-- Main laws: `no_lead` a vertical crossing's code is that of no place; `lead_at_lem` the state of a lead; `mark_flat`, `mark_tall` what a crossing marks.
use mathlib.Core.Path.{◌≡◌, ap, ◌∙◌}
use mathlib.Core.Bool.{Bool, true, false, cond}
use mathlib.Core.List.{List}
use Prim.Native.Nat.{ℕ, ◌+◌, ◌*◌, ◌/◌, ◌%◌}
use native.Mathlib.Omega.{arith}
use lib.Dec.{eqb}
use lib.ListN.{set}
use borrow.Author.Tests.{eq-eqb, ne_eqb}
use Rattle.tally.proofs.Test.{no}
use Rattle.edgel.specs.declared.Heading.{Heading}
use Rattle.edgel.specs.declared.Heading.TheVariants.{South, East, North, West}
use Rattle.edgel.specs.Edgel.{horizontal, first, heading_of, heading_at}
use Rattle.step.specs.declared.State.{State}
use Rattle.step.specs.Step.{code_on, code_at, state_at}
use Rattle.outline.proofs.Bytes.{mark}

odd_code : (i e : ℕ) → eqb (2 * i + 1) (2 * e) ≡ false
odd_code i e = ne_eqb (2 * i + 1) (2 * e) (λ z. omega arith)

pub flat_true : (i : ℕ) → horizontal (2 * i) ≡ true
flat_true i = eq-eqb (2 * i % 2) 0 (omega arith)

pub tall_false : (i : ℕ) → horizontal (2 * i + 1) ≡ false
tall_false i = ne_eqb ((2 * i + 1) % 2) 0 (λ z. omega arith)

-- the code of a state against that of a lead
pub no_lead : (s : State) (e : ℕ) → horizontal (code_at s) ≡ false → eqb (code_at s) (2 * e) ≡ false
no_lead s e h = go s.heading h
  where
    go : (g : Heading) → horizontal (code_on g s.place) ≡ false → eqb (code_on g s.place) (2 * e) ≡ false
    go South t = no (flat_true s.place) t
    go East t = odd_code s.place e
    go North t = no (flat_true s.place) t
    go West t = odd_code s.place e

pub lead_at_lem : (H : ℕ → Bool) (e : ℕ) (b : Bool) → H e ≡ b → state_at H (2 * e) ≡ record { place = e; heading = heading_of true b }
unfolding heading_at
lead_at_lem H e b p =
    let d : 2 * e / 2 ≡ e = omega arith in
    rw (d, flat_true e, p)

first_on : (g : Heading) (i : ℕ) → first (code_on g i) ≡ i
first_on South i = omega arith
first_on East i = omega arith
first_on North i = omega arith
first_on West i = omega arith

pub mark_flat : (v : ℕ) (bytes : List ℕ) (s : State) → horizontal (code_at s) ≡ true → mark v bytes (code_at s) ≡ set bytes s.place v
unfolding mark
mark_flat v bytes s h =
    ap (λ (b : Bool). cond b (set bytes (first (code_at s)) v) bytes) h ∙ ap (λ (i : ℕ). set bytes i v) (first_on s.heading s.place)

pub mark_tall : (v : ℕ) (bytes : List ℕ) (s : State) → horizontal (code_at s) ≡ false → mark v bytes (code_at s) ≡ bytes
unfolding mark
mark_tall v bytes s h = ap (λ (b : Bool). cond b (set bytes (first (code_at s)) v) bytes) h
