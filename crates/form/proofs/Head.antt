-- Reading the header, part by part. Assumes nothing.
-- Main laws: `to_width`, `to_height`, `to_header` the reader's way through a header; `width_none`, `width_bad`, `height_none`, `height_bad` where it leaves it; `head_plain`, `head_width`,
--   `head_space`, `head_height`, `head_end`, `head_done` what each return of the code hands over.
use mathlib.Core.Path.{◌≡◌, refl, sym, ap, ◌∙◌}
use mathlib.Core.Bool.{Bool, true, false}
use mathlib.Core.List.{List}
use Prim.Native.Nat.{ℕ, ◌+◌, ◌-◌, ◌≤◌}
use native.Mathlib.Omega.{arith}
use borrow.Author.Tests.{eq-eqb, ne_eqb}
use lib.ListN.{length, get_or, take, drop, length-drop}
use Rattle.std.specs.Prelude.{Option, Some, None, IfSome}
use Rattle.form.specs.declared.Number.{Number}
use Rattle.form.specs.declared.Header.{Header}
use Rattle.form.specs.Reader.{NumberRead, number, number_told, header_told}
use Rattle.form.proofs.Numbers.{number_missing, number_given}
use Rattle.form.specs.Text.{magic, maximum}
use Rattle.form.specs.Reader.{begins, number_of, no_header, height_of, width_of, header_of}
use Rattle.form.proofs.Prefix.{prefix_inside}
use Rattle.form.proofs.Line.{part_end}

module _ (s : List ℕ) where
  pub head_none : begins magic s ≡ false → header_of s ≡ no_header
  unfolding header_of
  head_none e = rw e

  pub to_width : begins magic s ≡ true → header_of s ≡ width_of s (number_of 65535 (drop 3 s))
  unfolding header_of
  to_width e = rw e

  module _ (a : NumberRead) where
    pub width_none : a.ok ≡ false → width_of s a ≡ no_header
    unfolding width_of
    width_none o = rw o

    pub width_bad : a.ok ≡ true → (get_or s (3 + a.count) 0 ≡ 32 → ⊥) → width_of s a ≡ no_header
    unfolding width_of
    width_bad o n = rw (o, ne_eqb (get_or s (3 + a.count) 0) 32 n)

    pub to_height : a.ok ≡ true → get_or s (3 + a.count) 0 ≡ 32 → width_of s a ≡ height_of s a.value (3 + a.count + 1) (number_of 65535 (drop (3 + a.count + 1) s))
    unfolding width_of
    to_height o e = rw (o, eq-eqb (get_or s (3 + a.count) 0) 32 e)

    module _ (w u : ℕ) where
      pub height_none : a.ok ≡ false → height_of s w u a ≡ no_header
      unfolding height_of
      height_none o = rw o

      pub height_bad : a.ok ≡ true → begins maximum (drop (u + a.count) s) ≡ false → height_of s w u a ≡ no_header
      unfolding height_of
      height_bad o e = rw (o, e)

      pub to_header : a.ok ≡ true → begins maximum (drop (u + a.count) s) ≡ true → height_of s w u a ≡ record { ok = true; width = w; height = a.value; used = u + a.count + 5 }
      unfolding height_of
      to_header o e = rw (o, e)

-- what a call has to show of the header read
abbrev pub Headed : List ℕ → Option Header → Type 0
Headed s r = (r ≡ header_told (header_of s)) × IfSome r (λ h. (h.used ≤ length s) × (h.width ≤ 65535) × (h.height ≤ 65535))

module _ (s : List ℕ) where
  none : header_of s ≡ no_header → Headed s None
  none f = (ap header_told (sym f), tt)

  pub head_plain : begins magic s ≡ false → Headed s None
  head_plain b = none (head_none s b)

  module _ (b : begins magic s ≡ true) where
    wide : (x : NumberRead) → x ≡ number_of 65535 (take (length s - 3) (drop 3 s)) → header_of s ≡ width_of s x
    wide x ex = to_width s b ∙ ap (λ (i : List ℕ). width_of s (number_of 65535 i)) (sym (part_end s 3)) ∙ ap (width_of s) (sym ex)

    pub head_width : None ≡ number_told (number_of 65535 (take (length s - 3) (drop 3 s))) → Headed s None
    head_width e =
        let x = number_of 65535 (take (length s - 3) (drop 3 s)) in
        none (wide x refl ∙ width_none s x (number_missing x e))

    module _ (x : Number) (ex : Some x ≡ number_told (number_of 65535 (take (length s - 3) (drop 3 s)))) where
      first : header_of s ≡ width_of s (number x.value x.count)
      first = wide (number x.value x.count) (sym (number_given x _ ex))

      pub head_space : (get_or s (3 + x.count) 0 ≡ 32 → ⊥) → Headed s None
      head_space n = none (first ∙ width_bad s (number x.value x.count) refl n)

      module _ (g : get_or s (3 + x.count) 0 ≡ 32) where
        tall : (y : NumberRead) → y ≡ number_of 65535 (take (length s - (3 + x.count + 1)) (drop (3 + x.count + 1) s)) → header_of s ≡ height_of s x.value (3 + x.count + 1) y
        tall y ey =
            first
            ∙ to_height s (number x.value x.count) refl g
            ∙ ap (λ (i : List ℕ). height_of s x.value (3 + x.count + 1) (number_of 65535 i)) (sym (part_end s (3 + x.count + 1)))
            ∙ ap (height_of s x.value (3 + x.count + 1)) (sym ey)

        pub head_height : None ≡ number_told (number_of 65535 (take (length s - (3 + x.count + 1)) (drop (3 + x.count + 1) s))) → Headed s None
        head_height e =
            let y = number_of 65535 (take (length s - (3 + x.count + 1)) (drop (3 + x.count + 1) s)) in
            none (tall y refl ∙ height_none s y x.value (3 + x.count + 1) (number_missing y e))

        module _ (y : Number) (ey : Some y ≡ number_told (number_of 65535 (take (length s - (3 + x.count + 1)) (drop (3 + x.count + 1) s))))
          where
            second : header_of s ≡ height_of s x.value (3 + x.count + 1) (number y.value y.count)
            second = tall (number y.value y.count) (sym (number_given y _ ey))

            ends : (z : Bool) → begins maximum (take (length s - (3 + x.count + 1 + y.count)) (drop (3 + x.count + 1 + y.count) s)) ≡ z → begins maximum (drop (3 + x.count + 1 + y.count) s) ≡ z
            ends z q = ap (begins maximum) (sym (part_end s (3 + x.count + 1 + y.count))) ∙ q

            pub head_end : begins maximum (take (length s - (3 + x.count + 1 + y.count)) (drop (3 + x.count + 1 + y.count) s)) ≡ false → Headed s None
            head_end q = none (second ∙ height_bad s (number y.value y.count) x.value (3 + x.count + 1) refl (ends false q))

            pub head_done : begins maximum (take (length s - (3 + x.count + 1 + y.count)) (drop (3 + x.count + 1 + y.count) s)) ≡ true → x.value ≤ 65535 → y.value ≤ 65535
                → Headed s (Some (record { width = x.value; height = y.value; used = 3 + x.count + 1 + y.count + 5 }))
            head_done q h k =
                let t = ends true q in (
                  ap header_told (sym (second ∙ to_header s (number y.value y.count) x.value (3 + x.count + 1) refl t)),
                  (omega (arith, prefix_inside maximum (drop (3 + x.count + 1 + y.count) s) t, length-drop (3 + x.count + 1 + y.count) s), h, k),
                )
