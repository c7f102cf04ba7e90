-- The header as it is read: byte by byte of the magic, then number by number. Assumes nothing.
-- Definitions: `Answers` what the reader of the header has to show.
-- Main laws: `magic_0`, `magic_1`, `magic_2`, `magic_read`, `magic_done` the first three bytes; `field_gone`, `field_next` a number that is missing, or there; `unfit`, `bare`, `headed_done` the maximum and the white byte; `stops`, `head_width`, `head_height`, `head_maximum`, `head_low`, `head_high`, `head_bare`, `head_whole` what each return of the code hands over; `byte_inside` a byte other than 0 is in the file.
use mathlib.Core.Path.{◌≡◌, refl, sym, ap, ◌∙◌}
use mathlib.Core.Bool.{Bool, true, false, ◌&&◌}
use mathlib.Core.List.{List, [], ◌∷◌, ◌++◌}
use Prim.Native.Nat.{ℕ, suc, ◌+◌, ◌≤◌, ◌<◌}
use native.Mathlib.Omega.{arith}
use lib.Dec.{eqb, ltb, leb}
use lib.ListN.{length, get_or, get_or-eq_default}
use borrow.Author.Tests.{eq-eqb, ne_eqb, le-ltb, ltb-true, ltb-false, le-leb, lt-leb, leb-true}
use Rattle.tally.proofs.Test.{by_test, no, both, and_2}
use Rattle.std.specs.Prelude.{Result, Ok, Err, IfOk}
use Rattle.pgm.specs.declared.Number.{Number}
use Rattle.pgm.specs.declared.Head.{Head}
use Rattle.pgm.specs.Reader.{NumberRead, HeadRead, MagicRead, number_told, head_told}
use Rattle.pgm.proofs.Steps.{number_given, number_missing, told_there}
use Rattle.pgm.specs.Grammar.{is_white, in_gap}
use Rattle.pgm.specs.Reader.{Three, there, stop, is_form, field_at, fields_from, headed, head_of, cap, capped, capped_head}
use Rattle.pgm.proofs.Cap.{cap_small, cap_fits, cap_least}

-- a byte past the end is 0
pub byte_inside : (p : ℕ → Bool) (s : List ℕ) (i : ℕ) → p 0 ≡ false → p (get_or s i 0) ≡ true → i < length s
byte_inside p s i z e =
    by_test (ltb i (length s)) (λ t. ltb-true i (length s) t) (λ t. no e (ap p (get_or-eq_default s 0 (ltb-false i (length s) t)) ∙ z))

module _ (s : List ℕ) where
  -- ---- the magic
  pub magic_0 : (get_or s 0 0 ≡ 80 → ⊥) → head_of s ≡ stop 0
  unfolding head_of
  magic_0 n = rw (ne_eqb (get_or s 0 0) 80 n)

  module _ (e : get_or s 0 0 ≡ 80) where
    pub magic_1 : is_form (get_or s 1 0) ≡ false → head_of s ≡ stop 1
    unfolding head_of
    magic_1 n = rw (eq-eqb (get_or s 0 0) 80 e, n)

    module _ (f : is_form (get_or s 1 0) ≡ true) where
      pub magic_2 : in_gap false (get_or s 2 0) ≡ false → head_of s ≡ stop 2
      unfolding head_of
      magic_2 n = rw (eq-eqb (get_or s 0 0) 80 e, f, n)

      pub magic_read : in_gap false (get_or s 2 0) ≡ true → head_of s ≡ headed s (fields_from s 3 [] 2 2)
      unfolding head_of
      magic_read n = rw (eq-eqb (get_or s 0 0) 80 e, f, n)

      pub magic_done : in_gap false (get_or s 2 0) ≡ true → (b : ℕ) → b ≡ get_or s 1 0 → MagicRead s (eqb b 50)
      magic_done n b q = record { inside = omega (arith, byte_inside (in_gap false) s 2 refl n); form = ap (λ (z : ℕ). eqb z 50) q; left = magic_read n }

  -- ---- a number
  module _ (k : ℕ) (vs : List ℕ) (f p : ℕ) where
    pub field_gone : there (field_at s p) ≡ false → fields_from s (suc k) vs f p ≡ record { ok = false; values = []; first = (field_at s p).first; next = (field_at s p).first }
    unfolding fields_from
    field_gone e = rw (e, fields_from)

    pub field_next : there (field_at s p) ≡ true → fields_from s (suc k) vs f p ≡ fields_from s k (vs ++ ((field_at s p).value ∷ [])) (field_at s p).first (field_at s p).next
    unfolding fields_from
    field_next e = rw (e, fields_from)

  pub fields_end : (vs : List ℕ) (f p : ℕ) → fields_from s 0 vs f p ≡ record { ok = true; values = vs; first = f; next = p }
  unfolding fields_from
  fields_end vs f p = refl

  -- ---- the maximum, and the white byte after it
  module _ (w h m f n : ℕ) where
    abbrev pub three : Three
    three = record { ok = true; values = w ∷ h ∷ m ∷ []; first = f; next = n }

    pub unfit : (leb 1 m && leb m 255) ≡ false → headed s three ≡ stop f
    unfolding headed
    unfit e = rw e

    module _ (e : (leb 1 m && leb m 255) ≡ true) where
      pub bare : is_white (get_or s n 0) ≡ false → headed s three ≡ stop n
      unfolding headed
      bare b = rw (e, b)

      pub headed_done : is_white (get_or s n 0) ≡ true → headed s three ≡ record { ok = true; plain = eqb (get_or s 1 0) 50; width = w; height = h; maximum = m; at = n + 1 }
      unfolding headed
      headed_done b = rw (e, b)

  pub missing : (f n : ℕ) → headed s (record { ok = false; values = []; first = f; next = n }) ≡ stop f
  unfolding headed
  missing f n = refl

  -- ---- of what the code reads
  abbrev pub Answers : Result Head ℕ → Type 0
  Answers r = (r ≡ head_told (capped_head (head_of s))) × IfOk r (λ h. h.at ≤ length s)

  pub stops : (p : ℕ) → head_of s ≡ stop p → Answers (Err p)
  stops p q = (ap (λ (z : HeadRead). head_told (capped_head z)) (sym q), tt)

  module _ (k : ℕ) (vs : List ℕ) (f p : ℕ) (t : head_of s ≡ headed s (fields_from s (suc k) vs f p)) where
    field_out : (a : ℕ) → Err a ≡ number_told (capped (field_at s p)) → Answers (Err a)
    field_out a e =
        let g = number_missing (capped (field_at s p)) a e in
        stops a
        (t ∙ ap (headed s) (field_gone k vs f p (le-ltb (field_at s p).first (field_at s p).next g.0)) ∙ missing (field_at s p).first (field_at s p).first ∙ ap stop (sym g.1))

    field_in : (n : Number) → Ok n ≡ number_told (capped (field_at s p)) → head_of s ≡ headed s (fields_from s k (vs ++ ((field_at s p).value ∷ [])) n.first n.next)
    field_in n e =
        let g = (number_given (capped (field_at s p)) n e).1 in
        t ∙ ap (headed s) (field_next k vs f p (told_there (capped (field_at s p)) n e))
        ∙ ap (λ (z : NumberRead). headed s (fields_from s k (vs ++ ((field_at s p).value ∷ [])) z.first z.next)) (sym g)

  -- what the code keeps of a number's value
  kept : (p : ℕ) (n : Number) → Ok n ≡ number_told (capped (field_at s p)) → n.value ≡ cap (field_at s p).value
  kept p n e = ap (λ (z : NumberRead). z.value) (number_given (capped (field_at s p)) n e).1

  -- the magic is read, then one number, two, three
  module _ (plain : Bool) (g : MagicRead s plain) where
    pub head_width : (a : ℕ) → Err a ≡ number_told (capped (field_at s 2)) → Answers (Err a)
    head_width = field_out 2 [] 2 2 g.left

    module _ (x : Number) (ex : Ok x ≡ number_told (capped (field_at s 2))) where
      w : ℕ
      w = (field_at s 2).value

      one_read : head_of s ≡ headed s (fields_from s 2 (w ∷ []) x.first x.next)
      unfolding w
      one_read = field_in 2 [] 2 2 g.left x ex

      pub head_height : (a : ℕ) → Err a ≡ number_told (capped (field_at s x.next)) → Answers (Err a)
      head_height = field_out 1 (w ∷ []) x.first x.next one_read

      module _ (y : Number) (ey : Ok y ≡ number_told (capped (field_at s x.next))) where
        h : ℕ
        h = (field_at s x.next).value

        two_read : head_of s ≡ headed s (fields_from s 1 (w ∷ h ∷ []) y.first y.next)
        unfolding h
        two_read = field_in 1 (w ∷ []) x.first x.next one_read y ey

        pub head_maximum : (a : ℕ) → Err a ≡ number_told (capped (field_at s y.next)) → Answers (Err a)
        head_maximum = field_out 0 (w ∷ h ∷ []) y.first y.next two_read

        module _ (u : Number) (eu : Ok u ≡ number_told (capped (field_at s y.next))) where
          m : ℕ
          m = (field_at s y.next).value

          all_there : head_of s ≡ headed s (three w h m u.first u.next)
          unfolding m
          all_there = field_in 0 (w ∷ h ∷ []) y.first y.next two_read u eu ∙ ap (headed s) (fields_end (w ∷ h ∷ m ∷ []) u.first u.next)

          value_is : u.value ≡ cap m
          unfolding m
          value_is = kept y.next u eu

          pub head_low : u.value < 1 → Answers (Err u.first)
          head_low k =
              let b : leb 1 m ≡ false = sym (cap_least m) ∙ ap (leb 1) (sym value_is) ∙ lt-leb 1 u.value k in
              stops u.first (all_there ∙ unfit w h m u.first u.next (ap (λ (z : Bool). z && leb m 255) b))

          module _ (l : 1 ≤ u.value) where
            least : leb 1 m ≡ true
            least = sym (cap_least m) ∙ ap (leb 1) (sym value_is) ∙ le-leb 1 u.value l

            pub head_high : 255 < u.value → Answers (Err u.first)
            head_high k =
                let b : leb m 255 ≡ false = sym (cap_fits m 255 (omega arith)) ∙ ap (λ (z : ℕ). leb z 255) (sym value_is) ∙ lt-leb u.value 255 k in
                stops u.first (all_there ∙ unfit w h m u.first u.next (ap (λ (z : Bool). z && leb m 255) least ∙ b))

            module _ (k : u.value ≤ 255) where
              fit : (leb 1 m && leb m 255) ≡ true
              fit = both least (sym (cap_fits m 255 (omega arith)) ∙ ap (λ (z : ℕ). leb z 255) (sym value_is) ∙ le-leb u.value 255 k)

              pub head_bare : is_white (get_or s u.next 0) ≡ false → Answers (Err u.next)
              head_bare b = stops u.next (all_there ∙ bare w h m u.first u.next fit b)

              pub head_whole : is_white (get_or s u.next 0) ≡ true
                  → Answers (Ok (record { plain = plain; width = x.value; height = y.value; maximum = u.value; at = u.next + 1 }))
              unfolding w h
              head_whole b =
                  let v : m ≡ u.value = sym (value_is ∙ cap_small m (omega (arith, leb-true m 255 (and_2 (leb 1 m) (leb m 255) fit)))) in
                  let i : u.next < length s = byte_inside is_white s u.next refl b in
                  let p = ap capped_head (all_there ∙ headed_done w h m u.first u.next fit b) in (
                    sym
                        (ap head_told
                        (p
                        ∙ (λ z. record { ok = true; plain = sym g.form z; width = sym (kept 2 x ex) z; height = sym (kept x.next y ey) z; maximum = v z; at = u.next + 1 }))),
                    omega arith,
                  )
