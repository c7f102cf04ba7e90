-- The reader reads exactly the headers. Assumes nothing.
-- Definitions: `Head` a list begins with a header.
-- Main laws: `header_sound` what is read is a header; `header_complete` every header is read.
use mathlib.Core.Path.{◌≡◌, refl, sym, ap, ◌∙◌}
use mathlib.Core.Bool.{Bool, true}
use mathlib.Core.List.{List, ◌∷◌, ◌++◌, append_assoc}
use Prim.Native.Nat.{ℕ, ◌+◌, ◌≤◌}
use native.Mathlib.Omega.{arith}
use borrow.Author.Tests.{eqb-true, eqb-false}
use lib.Dec.{eqb}
use lib.ListN.{length, get_or, drop, length-append}
use lib.Seq.{get_or-drop, drop-append_seam, drop-drop}
use Rattle.tally.proofs.Test.{by_test, no}
use Rattle.form.specs.Reader.{HeaderRead}
use Rattle.form.specs.Decimal.{decimal}
use Rattle.form.specs.Text.{magic, maximum, header}
use Rattle.form.specs.Reader.{number, number_of, begins, height_of, width_of, header_of}
use Rattle.form.proofs.Numbers.{number_sound, number_complete}
use Rattle.form.proofs.Prefix.{prefix_sound, prefix_complete}
use Rattle.form.proofs.Head.{head_none, to_width, width_none, width_bad, to_height, height_none, height_bad, to_header}
use Rattle.form.proofs.Exact.{known, seam}

abbrev pub headed : ℕ → ℕ → HeaderRead
headed w h = record { ok = true; width = w; height = h; used = length (header w h) }

-- ---- where the parts stand
module _ (s : List ℕ) (u v : ℕ) (l : List ℕ) (e : drop u s ≡ decimal v ++ l) where
  next_byte : get_or s (u + length (decimal v)) 0 ≡ get_or l 0 0
  next_byte = sym (get_or-drop u s (length (decimal v)) 0) ∙ seam (decimal v) l (drop u s) e

  next_rest : drop (u + length (decimal v)) s ≡ l
  next_rest = sym (drop-drop (length (decimal v)) u s) ∙ ap (drop (length (decimal v))) e ∙ drop-append_seam (decimal v) l

  next_past : drop (u + length (decimal v) + 1) s ≡ drop 1 l
  next_past = sym (drop-drop 1 (u + length (decimal v)) s) ∙ ap (drop 1) next_rest

pub header_length : (w h : ℕ) → 3 + length (decimal w) + 1 + length (decimal h) + 5 ≡ length (header w h)
unfolding header
header_length w h =
    let a = length-append (decimal w) (32 ∷ (decimal h ++ maximum)) in
    let b = length-append (decimal h) maximum in
    omega arith

-- ---- every header is read
module _ (w h : ℕ) (l : List ℕ) (hw : w ≤ 65535) (hh : h ≤ 65535) where
  s : List ℕ
  s = header w h ++ l

  n : ℕ
  n = length (decimal w)

  first : drop 3 s ≡ decimal w ++ (32 ∷ ((decimal h ++ maximum) ++ l))
  unfolding s header
  first = append_assoc (decimal w) (32 ∷ (decimal h ++ maximum)) l

  second : drop (3 + n + 1) s ≡ decimal h ++ (maximum ++ l)
  unfolding n
  second = next_past s 3 w (32 ∷ ((decimal h ++ maximum) ++ l)) first ∙ append_assoc (decimal h) maximum l

  pub header_complete : header_of (header w h ++ l) ≡ headed w h
  unfolding header s n
  header_complete =
      let a : number_of 65535 (drop 3 s) ≡ number w n = ap (number_of 65535) first ∙ number_complete 65535 w (32 ∷ ((decimal h ++ maximum) ++ l)) hw refl in
      let b : number_of 65535 (drop (3 + n + 1) s) ≡ number h (length (decimal h)) = ap (number_of 65535) second ∙ number_complete 65535 h (maximum ++ l) hh refl in
      let c : begins maximum (drop (3 + n + 1 + length (decimal h)) s) ≡ true =
      ap (begins maximum) (next_rest s (3 + n + 1) h (maximum ++ l) second) ∙ prefix_complete maximum l in
      to_width s (prefix_complete magic (drop 3 s))
      ∙ ap (width_of s) a
      ∙ to_height s (number w n) refl (next_byte s 3 w (32 ∷ ((decimal h ++ maximum) ++ l)) first)
      ∙ ap (height_of s w (3 + n + 1)) b
      ∙ to_header s (number h (length (decimal h))) w (3 + n + 1) refl c
      ∙ ap (λ (u : ℕ). record { ok = true; width = w; height = h; used = u }) (header_length w h)

-- ---- what is read is a header
pub record Head (s : List ℕ) : Type 0 where
  pub width : ℕ
  pub height : ℕ
  pub rest : List ℕ
  pub is : s ≡ header width height ++ rest
  pub wide : width ≤ 65535
  pub tall : height ≤ 65535
  pub reads : header_of s ≡ headed width height

is_ok : HeaderRead → Bool
is_ok r = r.ok

module _ (s : List ℕ) (m : begins magic s ≡ true) (w : ℕ) (l : List ℕ) (hw : w ≤ 65535) (e : drop 3 s ≡ decimal w ++ l) (t : header_of s ≡ width_of s (number w (length (decimal w)))) where
  at_height : get_or s (3 + length (decimal w)) 0 ≡ 32 → (header_of s).ok ≡ true → Head s
  unfolding is_ok header
  at_height g o =
      let u = 3 + length (decimal w) + 1 in
      let t2 = t ∙ to_height s (number w (length (decimal w))) refl g in
      let k = known l 32 (sym (next_byte s 3 w l e) ∙ g) (omega arith) in
      by_test (number_of 65535 (drop u s)).ok
      (λ p.
      let r = number_sound 65535 (drop u s) p in
      let h = r.value in
      let t3 = t2 ∙ ap (height_of s w u) r.reads in
      let y = next_rest s u h r.rest r.is in
      by_test (begins maximum (drop (u + length (decimal h)) s))
      (λ q.
      let f = sym y ∙ prefix_sound maximum (drop (u + length (decimal h)) s) q in
      let z = drop 5 (drop (u + length (decimal h)) s) in
      let d : drop 1 l ≡ (decimal h ++ maximum) ++ z = sym (next_past s 3 w l e) ∙ r.is ∙ ap (λ (i : List ℕ). decimal h ++ i) f ∙ sym (append_assoc (decimal h) maximum z) in
      record {
        width = w;
        height = h;
        rest = z;
        is =
            prefix_sound magic s m
            ∙ ap (λ (i : List ℕ). magic ++ i) (e ∙ ap (λ (i : List ℕ). decimal w ++ i) (k ∙ ap (λ (i : List ℕ). 32 ∷ i) d) ∙ sym (append_assoc (decimal w) (32 ∷ (decimal h ++ maximum)) z));
        wide = hw;
        tall = r.most;
        reads = t3 ∙ to_header s (number h (length (decimal h))) w u refl q ∙ ap (λ (i : ℕ). record { ok = true; width = w; height = h; used = i }) (header_length w h);
      })
      (λ q. no o (ap is_ok (t3 ∙ height_bad s (number h (length (decimal h))) w u refl q))))
      (λ p. no o (ap is_ok (t2 ∙ height_none s (number_of 65535 (drop u s)) w u p)))

pub header_sound : (s : List ℕ) → (header_of s).ok ≡ true → Head s
unfolding is_ok
header_sound s o =
    by_test (begins magic s)
    (λ m.
    by_test (number_of 65535 (drop 3 s)).ok
    (λ p.
    let r = number_sound 65535 (drop 3 s) p in
    let t = to_width s m ∙ ap (width_of s) r.reads in
    let n = length (decimal r.value) in
    by_test (eqb (get_or s (3 + n) 0) 32)
    (λ g. at_height s m r.value r.rest r.most r.is t (eqb-true (get_or s (3 + n) 0) 32 g) o)
    (λ g. no o (ap is_ok (t ∙ width_bad s (number r.value n) refl (eqb-false (get_or s (3 + n) 0) 32 g)))))
    (λ p. no o (ap is_ok (to_width s m ∙ width_none s (number_of 65535 (drop 3 s)) p))))
    (λ m. no o (ap is_ok (head_none s m)))
