-- The loops that follow one line, from crossing to crossing: after a step the line is whole or goes on. Assumes nothing.
-- Definitions: `Arrived` what holds after a step: at the lead the line is whole, elsewhere the walk goes on.
-- Main laws: `arrive` a step from any crossing arrives; `moving`, `arrive_tall` from a vertical one, which is no lead and marks nothing; `east_is`, `west_is`, `south_flat`, `north_flat`,
--   `east_tall`, `west_tall` headings and the edgels they cross; `kept_long` a store keeps the length.
use mathlib.Core.Path.{◌≡◌, refl, sym, ap, ◌∙◌}
use mathlib.Core.Bool.{true, false}
use mathlib.Core.List.{List}
use mathlib.Core.Logic.{◌≢◌}
use Prim.Native.Nat.{ℕ, ◌+◌, ◌*◌, ◌≤◌}
use lib.ListN.{length, set, length-set}
use borrow.Author.Tests.{eqb-false}
use Rattle.tally.proofs.Test.{no}
use Rattle.matte.specs.Layout.{Layout}
use Rattle.matte.specs.Picture.{Picture}
use Rattle.edgel.specs.declared.Heading.{Heading}
use Rattle.edgel.specs.declared.Heading.TheVariants.{South, East, North, West}
use Rattle.edgel.specs.Edgel.{horizontal}
use Rattle.edgel.specs.Word.{word}
use Rattle.step.specs.declared.State.{State}
use Rattle.step.specs.Step.{code_on, code_at, after}
use Rattle.outline.specs.Line.{cut_at, line}
use Rattle.outline.specs.List.{encode}
use Rattle.outline.proofs.Bytes.{mark, mark_all}
use Rattle.refuse.specs.Shape.{Ground}
use Rattle.follow.specs.Words.{pasted}
use Rattle.follow.specs.Stride.{is_east, is_west}
use Rattle.follow.proofs.Places.{flat_true, tall_false, no_lead, mark_tall}
use Rattle.follow.proofs.Tracing.{Tracing, go, stop}

pub east_is : (g : Heading) → is_east g ≡ true → g ≡ East
east_is South e = no e refl
east_is East e = refl
east_is North e = no e refl
east_is West e = no e refl

pub west_is : (g : Heading) → is_west g ≡ true → g ≡ West
west_is South e = no e refl
west_is East e = no e refl
west_is North e = no e refl
west_is West e = refl

pub south_flat : (s : State) → s.heading ≡ South → horizontal (code_at s) ≡ true
south_flat s e = ap (λ (g : Heading). horizontal (code_on g s.place)) e ∙ flat_true s.place

pub north_flat : (s : State) → s.heading ≡ North → horizontal (code_at s) ≡ true
north_flat s e = ap (λ (g : Heading). horizontal (code_on g s.place)) e ∙ flat_true s.place

pub east_tall : (s : State) → s.heading ≡ East → horizontal (code_at s) ≡ false
east_tall s e = ap (λ (g : Heading). horizontal (code_on g s.place)) e ∙ tall_false s.place

pub west_tall : (s : State) → s.heading ≡ West → horizontal (code_at s) ≡ false
west_tall s e = ap (λ (g : Heading). horizontal (code_on g s.place)) e ∙ tall_false s.place

-- one element set, a list is as long as before
pub kept_long : (u v : List ℕ) (n x m : ℕ) → v ≡ set u n x → length u ≡ m → length v ≡ m
kept_long u v n x m e h = let s : length (set u n x) ≡ length u = simp length-set in ap length e ∙ s ∙ h

module _ (P : Picture) (G : Ground P) (k : ℕ) (L : Layout) (m e : ℕ) (o : cut_at P k (2 * e) ≡ true) (from : ℕ) (work₀ words₀ : List ℕ) where
  pub record Arrived (n : ℕ) (s : State) (work words : List ℕ) : Type 0 where
    pub on : code_at s ≢ 2 * e → Tracing P G k L m e o from work₀ words₀ n s work words
    pub home : code_at s ≡ 2 * e
        → (n ≡ from + length (line P k (2 * e))) × (work ≡ mark_all m work₀ (line P k (2 * e))) × (words ≡ pasted words₀ from (encode L k false (line P k (2 * e))))

  module _ (room : from + length (line P k (2 * e)) ≤ length words₀) (n : ℕ) (s : State) (work words : List ℕ) where
    pub arrive : Tracing P G k L m e o from work₀ words₀ n s work words → (s' : State) → s' ≡ after P k s → (work' words' : List ℕ)
        → work' ≡ mark m work (code_at s) → words' ≡ set words n (word L (code_at s) k false) → Arrived (n + 1) s' work' words'
    arrive T s' p work' words' u x =
        record {
          on = go P G k L m e o from work₀ words₀ room n s work words T s' p work' words' u x;
          home = stop P G k L m e o from work₀ words₀ room n s work words T s' p work' words' u x;
        }

    pub moving : horizontal (code_at s) ≡ false → Arrived n s work words → Tracing P G k L m e o from work₀ words₀ n s work words
    moving t A = A.on (eqb-false (code_at s) (2 * e) (no_lead s e t))

    pub arrive_tall : horizontal (code_at s) ≡ false → Arrived n s work words → (s' : State) → s' ≡ after P k s → (words' : List ℕ)
        → words' ≡ set words n (word L (code_at s) k false) → Arrived (n + 1) s' work words'
    arrive_tall t A s' p words' x = arrive (moving t A) s' p work words' (sym (mark_tall m work s t)) x
