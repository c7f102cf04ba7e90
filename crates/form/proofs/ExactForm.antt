-- The reader reads exactly the input of the form: what `form_text` and `Fits` say, and nothing else. Assumes nothing.
-- Definitions: `Formed` a list is the text of some parts that fit, and these parts are handed back.
-- Main laws: `form_sound` input that is read is of the form; `form_complete` all input of the form is read, with its own parts; `form_exact` a list is refused exactly if it is not of the form;
--   `form_refused` refused, everything handed back is 0; `form_inside` the numbers handed back keep to the form, and w·h bytes stand after the place where the samples start;
--   `form_levels`, `form_samples` the levels and samples are the text's.
use mathlib.Core.Path.{◌≡◌, refl, sym, ap, ◌∙◌}
use mathlib.Core.Bool.{Bool, true, false, cond}
use mathlib.Core.List.{List, ◌++◌}
use Prim.Native.Nat.{ℕ, ◌+◌, ◌-◌, ◌*◌, ◌≤◌}
use native.Mathlib.Omega.{arith}
use borrow.Author.Tests.{leb-true, leb-false, eqb-true, eqb-false}
use lib.Dec.{eqb, leb}
use lib.ListN.{length, take, drop, length-append, replicate}
use lib.Seq.{take-append_seam, drop-append_seam, drop-append-add}
use Rattle.tally.proofs.Test.{by_test, no}
use Rattle.form.specs.Text.{FormRead}
use Rattle.form.specs.Reader.{LevelsRead}
use Rattle.form.specs.Text.{levels_text, header, form_text, Fits, form_with, no_form}
use Rattle.form.specs.Reader.{lined, levels_of, header_of, samples_of, form_of}
use Rattle.form.proofs.Whole.{form_none, to_samples, samples_none, samples_many, samples_else, samples_done}
use Rattle.form.proofs.Exact.{levels_sound, levels_complete}
use Rattle.form.proofs.ExactHead.{headed, header_sound, header_complete}

is_ok : FormRead → Bool
is_ok r = r.ok

ok_levels : LevelsRead → Bool
ok_levels r = r.ok

-- ---- from the parts to the whole
module _ (s ks : List ℕ) (a : levels_of s ≡ lined ks (length (levels_text ks))) where
  to_header : form_of s ≡ samples_of s (lined ks (length (levels_text ks))) (header_of (drop (length (levels_text ks)) s))
  unfolding ok_levels
  to_header = to_samples s (ap ok_levels a) ∙ ap (λ (x : LevelsRead). samples_of s x (header_of (drop x.used s))) a

  module _ (w h : ℕ) (b : header_of (drop (length (levels_text ks)) s) ≡ headed w h) where
    to_end : form_of s ≡ samples_of s (lined ks (length (levels_text ks))) (headed w h)
    to_end = to_header ∙ ap (samples_of s (lined ks (length (levels_text ks)))) b

    to_form : w * h ≤ 16384 → length s ≡ length (levels_text ks) + length (header w h) + w * h → form_of s ≡ form_with ks w h
    to_form m e = to_end ∙ samples_done s (lined ks (length (levels_text ks))) (headed w h) refl m e

pub text_length : (ks : List ℕ) (w h : ℕ) (px : List ℕ) → length (form_text ks w h px) ≡ length (levels_text ks) + length (header w h) + length px
unfolding form_text
text_length ks w h px = length-append (levels_text ks) (header w h ++ px) ∙ omega (arith, length-append (header w h) px)

-- ---- all input of the form is read, with its own parts
pub form_complete : (ks : List ℕ) (w h : ℕ) (px : List ℕ) → Fits ks w h px → form_of (form_text ks w h px) ≡ form_with ks w h
unfolding form_text
form_complete ks w h px f =
    let s = form_text ks w h px in
    to_form s ks (levels_complete ks (header w h ++ px) f.few f.small) w h
    (ap header_of (drop-append_seam (levels_text ks) (header w h ++ px)) ∙ header_complete w h px f.wide f.tall)
    f.most
    (omega (arith, text_length ks w h px, f.whole))

-- ---- input that is read is of the form
pub record Formed (s : List ℕ) : Type 0 where
  pub levels : List ℕ
  pub width : ℕ
  pub height : ℕ
  pub samples : List ℕ
  pub fits : Fits levels width height samples
  pub is : s ≡ form_text levels width height samples
  pub reads : form_of s ≡ form_with levels width height

pub form_sound : (s : List ℕ) → (form_of s).ok ≡ true → Formed s
unfolding is_ok form_text
form_sound s o =
    by_test (levels_of s).ok
    (λ p.
    let x = levels_sound s p in
    let ks = x.levels in
    let a = x.reads in
    let u = length (levels_text ks) in
    by_test (header_of (drop u s)).ok
    (λ q.
    let y = header_sound (drop u s) q in
    let w = y.width in
    let h = y.height in
    let t = to_end s ks a w h y.reads in
    let d : x.rest ≡ header w h ++ y.rest = sym (ap (drop u) x.is ∙ drop-append_seam (levels_text ks) x.rest) ∙ y.is in
    let e : s ≡ form_text ks w h y.rest = x.is ∙ ap (λ (i : List ℕ). levels_text ks ++ i) d in
    by_test (leb (w * h) 16384)
    (λ m.
    by_test (eqb (length s) (u + length (header w h) + w * h))
    (λ n.
    let z = eqb-true (length s) (u + length (header w h) + w * h) n in
    record {
      levels = ks;
      width = w;
      height = h;
      samples = y.rest;
      fits = record {
        few = x.few;
        small = x.small;
        wide = y.wide;
        tall = y.tall;
        whole = omega (arith, ap length e, text_length ks w h y.rest);
        most = leb-true (w * h) 16384 m;
      };
      is = e;
      reads = to_form s ks a w h y.reads (leb-true (w * h) 16384 m) z;
    })
    (λ n. no o (ap is_ok (t ∙ samples_else s (lined ks u) (headed w h) refl (leb-true (w * h) 16384 m) (eqb-false (length s) (u + length (header w h) + w * h) n)))))
    (λ m. no o (ap is_ok (t ∙ samples_many s (lined ks u) (headed w h) refl (leb-false (w * h) 16384 m)))))
    (λ q. no o (ap is_ok (to_header s ks a ∙ samples_none s (lined ks u) (header_of (drop u s)) q))))
    (λ p. no o (ap is_ok (form_none s p)))

-- ---- exactly
pub form_exact : (s : List ℕ) → (form_of s).ok ≡ false → (ks : List ℕ) (w h : ℕ) (px : List ℕ) → Fits ks w h px → s ≡ form_text ks w h px → ⊥
unfolding is_ok
form_exact s o ks w h px f e = no (ap is_ok (ap form_of e ∙ form_complete ks w h px f)) o

four : (a b c d : Bool) (x : FormRead) → x.ok ≡ true → (cond a (cond b (cond c (cond d x no_form) no_form) no_form) no_form).ok ≡ false
    → cond a (cond b (cond c (cond d x no_form) no_form) no_form) no_form ≡ no_form
four true true true true x e o = no e o
four true true true false x e o = refl
four true true false d x e o = refl
four true false c d x e o = refl
four false b c d x e o = refl

pub form_refused : (s : List ℕ) → (form_of s).ok ≡ false → form_of s ≡ no_form
unfolding form_of samples_of
form_refused s o =
    let a = levels_of s in
    let b = header_of (drop a.used s) in
    four a.ok b.ok (leb (b.width * b.height) 16384) (eqb (length s) (a.used + b.used + b.width * b.height))
    (record { ok = true; width = b.width; height = b.height; count = a.count; levels = a.levels; at = a.used + b.used })
    refl
    o

-- ---- the parts handed back, as parts of the input
pub record Inside (s : List ℕ) (r : FormRead) : Type 0 where
  pub few : r.count ≤ 255
  pub held : r.count ≤ length r.levels
  pub wide : r.width ≤ 65535
  pub tall : r.height ≤ 65535
  pub most : r.width * r.height ≤ 16384
  pub whole : length s ≡ r.at + r.width * r.height

pub form_inside : (s : List ℕ) (r : FormRead) → r ≡ form_of s → r.ok ≡ true → Inside s r
unfolding is_ok
form_inside s r e o =
    let f = form_sound s (ap is_ok (sym e) ∙ o) in
    let q = e ∙ f.reads in
    rw q
    (record {
      few = f.fits.few;
      held = omega (arith, length-append f.levels (replicate (255 - length f.levels) 0));
      wide = f.fits.wide;
      tall = f.fits.tall;
      most = f.fits.most;
      whole = ap length f.is ∙ text_length f.levels f.width f.height f.samples ∙ omega (arith, f.fits.whole);
    })

pub form_levels : (s : List ℕ) (f : Formed s) → take (form_of s).count (form_of s).levels ≡ f.levels
form_levels s f = rw f.reads (take-append_seam f.levels (replicate (255 - length f.levels) 0))

pub form_samples : (s : List ℕ) (f : Formed s) → drop (form_of s).at s ≡ f.samples
unfolding form_text
form_samples s f =
    let l = levels_text f.levels in
    let h = header f.width f.height in
    ap (λ (r : FormRead). drop r.at s) f.reads
    ∙ ap (drop (length l + length h)) f.is
    ∙ drop-append-add l (h ++ f.samples) (length h)
    ∙ drop-append_seam h f.samples
