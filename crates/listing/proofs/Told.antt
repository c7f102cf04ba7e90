-- What the printed text says, beyond the run's contract. Assumes nothing.
-- Main laws: `printed_cut` nothing past the 17,420th byte of the input matters; `printed_not_form` input that is not the text of parts that fit is answered so; `printed_form` the text of parts that fit is
--   answered by them; `tree_row` the row of line n says its parent and its kind.
use mathlib.Core.Path.{◌≡◌, refl, ap, ◌∙◌}
use mathlib.Core.Bool.{Bool, not}
use mathlib.Core.List.{List, [], ◌∷◌, ◌++◌}
use Prim.Native.Nat.{ℕ, ◌<◌}
use native.Mathlib.Omega.{arith}
use borrow.Author.Tests.{ltb-true, ltb-false}
use lib.Dec.{ltb}
use lib.ListN.{length, take}
use lib.Seq.{take_all}
use Rattle.tally.proofs.Test.{by_test}
use Rattle.matte.specs.Layout.{eight}
use Rattle.matte.specs.Picture.{Picture, picture}
use Rattle.enclosure.specs.Tree.{line_count, parent, kind, entry}
use Rattle.enclosure.proofs.Lines.{Setting}
use Rattle.enclosure.proofs.Value.{entry_parent, entry_kind}
use Rattle.form.specs.Text.{FormRead, form_text, Fits}
use Rattle.form.specs.Reader.{form_of}
use Rattle.form.proofs.ExactForm.{Formed, form_sound, form_complete, form_levels, form_samples}
use Rattle.form.proofs.Longest.{form_longest, form_cut}
use Rattle.text.specs.Listing.{field, kind_letter, line_text, not_form_text}
use Rattle.listing.specs.Printed.{answered, asked_of, printed}

is_ok : FormRead → Bool
is_ok f = f.ok

-- ---- the input
pub printed_form : (ks : List ℕ) (w h : ℕ) (px : List ℕ) → Fits ks w h px → printed (form_text ks w h px) ≡ answered (picture w h px) ks
unfolding printed is_ok
printed_form ks w h px f =
    let s = form_text ks w h px in
    let e = form_complete ks w h px f in
    let t : Formed s = record { levels = ks; width = w; height = h; samples = px; fits = f; is = refl; reads = e } in
    rw (ap is_ok e)
    (ap (λ (l : List ℕ). answered (asked_of (form_of s) s) l) (form_levels s t)
    ∙ ap (λ (l : List ℕ). answered (picture (form_of s).width (form_of s).height l) ks) (form_samples s t)
    ∙ ap (λ (r : FormRead). answered (picture r.width r.height px) ks) e)

pub printed_not_form : (s : List ℕ) → ((ks : List ℕ) (w h : ℕ) (px : List ℕ) → Fits ks w h px → s ≡ form_text ks w h px → ⊥) → printed s ≡ not_form_text
unfolding printed
printed_not_form s n =
    by_test (form_of s).ok
    (λ o.
    let f = form_sound s o in
    absurd (n f.levels f.width f.height f.samples f.fits f.is))
    (λ o. rw o)

-- the program reads one byte more than the longest input of the form
pub printed_cut : (s : List ℕ) → printed (take 17420 s) ≡ printed s
unfolding printed is_ok
printed_cut s =
    by_test (ltb (length s) 17420)
    (λ t. ap printed (take_all 17420 s (omega (arith, ltb-true (length s) 17420 t))))
    (λ t.
    by_test (form_of s).ok
    (λ o.
    let f = form_sound s o in
    absurd (omega (arith, ltb-false (length s) 17420 t, ap length f.is, form_longest f.levels f.width f.height f.samples f.fits)))
    (λ o. rw (ap is_ok (form_cut s) ∙ o, o)))

-- ---- the tree
module _ (P : Picture) (ks : List ℕ) (S : Setting eight P ks) where
  pub tree_row : (n k m : ℕ) → n < line_count eight P ks
      → line_text eight n k (entry eight P ks n) m ≡ field n 32 ++ (field k 32 ++ (field (parent eight P ks n) 32 ++ ((kind_letter (not (kind eight P ks n)) ∷ 32 ∷ []) ++ field m 10)))
  unfolding line_text
  tree_row n k m h = rw (entry_parent S n h, entry_kind S n h)
