-- Reading the whole input, part by part. Assumes nothing.
-- Main laws: `to_samples` from the levels and the header to the samples; `samples_none`, `samples_many`, `samples_else`, `samples_done` its cases; `form_given`, `form_missing` what
--   a form that is told says of the one read; `whole_none`, `whole_header`, `whole_many`, `whole_else`, `whole_done` what each return of the code hands over.
use mathlib.Core.Path.{◌≡◌, refl, sym, ap, ◌∙◌}
use mathlib.Core.Bool.{true, false}
use mathlib.Core.List.{List}
use Prim.Native.Nat.{ℕ, ◌+◌, ◌-◌, ◌*◌, ◌≤◌, ◌<◌}
use borrow.Author.Tests.{le-leb, lt-leb, eq-eqb, ne_eqb}
use lib.ListN.{length, take, drop}
use Rattle.std.specs.Prelude.{Some, None}
use Rattle.std.proofs.lemmas.Option.{cond_some}
use Rattle.form.specs.declared.Form.{Form}
use Rattle.form.specs.declared.Levels.{Levels}
use Rattle.form.specs.declared.Header.{Header}
use Rattle.form.specs.Text.{FormRead, no_form}
use Rattle.form.specs.Reader.{LevelsRead, HeaderRead, levels_told, header_told, form_told}
use Rattle.form.proofs.Numbers.{missing}
use Rattle.form.specs.Reader.{levels_of, header_of, samples_of, form_of}
use Rattle.form.proofs.Line.{part_end}

module _ (s : List ℕ) where
  pub form_none : (levels_of s).ok ≡ false → form_of s ≡ no_form
  unfolding form_of
  form_none o = rw o

  pub to_samples : (levels_of s).ok ≡ true → form_of s ≡ samples_of s (levels_of s) (header_of (drop (levels_of s).used s))
  unfolding form_of
  to_samples o = rw o

  module _ (a : LevelsRead) (b : HeaderRead) where
    pub samples_none : b.ok ≡ false → samples_of s a b ≡ no_form
    unfolding samples_of
    samples_none o = rw o

    module _ (o : b.ok ≡ true) where
      pub samples_many : 16384 < b.width * b.height → samples_of s a b ≡ no_form
      unfolding samples_of
      samples_many h = rw (o, lt-leb (b.width * b.height) 16384 h)

      module _ (h : b.width * b.height ≤ 16384) where
        pub samples_else : (length s ≡ a.used + b.used + b.width * b.height → ⊥) → samples_of s a b ≡ no_form
        unfolding samples_of
        samples_else n = rw (o, le-leb (b.width * b.height) 16384 h, ne_eqb (length s) (a.used + b.used + b.width * b.height) n)

        pub samples_done : length s ≡ a.used + b.used + b.width * b.height
            → samples_of s a b ≡ record { ok = true; width = b.width; height = b.height; count = a.count; levels = a.levels; at = a.used + b.used }
        unfolding samples_of
        samples_done e = rw (o, le-leb (b.width * b.height) 16384 h, eq-eqb (length s) (a.used + b.used + b.width * b.height) e)

-- ---- levels, a header and a form that are told, and none
levels_given : (l : Levels) (r : LevelsRead) → Some l ≡ levels_told r → r ≡ record { ok = true; count = l.count; levels = l.levels; used = l.used }
levels_given l r e =
    let q = cond_some r.ok (record { count = r.count; levels = r.levels; used = r.used }) l (sym e) in
    λ i. record { ok = q.0 i; count = (q.1 i).count; levels = (q.1 i).levels; used = (q.1 i).used }

header_given : (h : Header) (r : HeaderRead) → Some h ≡ header_told r → r ≡ record { ok = true; width = h.width; height = h.height; used = h.used }
header_given h r e =
    let q = cond_some r.ok (record { width = r.width; height = r.height; used = r.used }) h (sym e) in
    λ i. record { ok = q.0 i; width = (q.1 i).width; height = (q.1 i).height; used = (q.1 i).used }

pub form_given : (f : Form) (r : FormRead) → Some f ≡ form_told r → r ≡ record { ok = true; width = f.width; height = f.height; count = f.count; levels = f.levels; at = f.at }
form_given f r e =
    let q = cond_some r.ok (record { width = r.width; height = r.height; count = r.count; levels = r.levels; at = r.at }) f (sym e) in
    λ i. record { ok = q.0 i; width = (q.1 i).width; height = (q.1 i).height; count = (q.1 i).count; levels = (q.1 i).levels; at = (q.1 i).at }

pub form_missing : (r : FormRead) → None ≡ form_told r → r.ok ≡ false
form_missing r e = missing r.ok _ e

module _ (s : List ℕ) where
  none : form_of s ≡ no_form → None ≡ form_told (form_of s)
  none e = ap form_told (sym e)

  pub whole_none : None ≡ levels_told (levels_of s) → None ≡ form_told (form_of s)
  whole_none e = none (form_none s (missing (levels_of s).ok _ e))

  module _ (a : Levels) (ea : Some a ≡ levels_told (levels_of s)) where
    line : LevelsRead
    line = record { ok = true; count = a.count; levels = a.levels; used = a.used }

    whole : (b : HeaderRead) → b ≡ header_of (take (length s - a.used) (drop a.used s)) → form_of s ≡ samples_of s line b
    unfolding line
    whole b eb =
        let ea' = levels_given a (levels_of s) ea in
        to_samples s (ap (λ (x : LevelsRead). x.ok) ea')
        ∙ ap (λ (x : LevelsRead). samples_of s x (header_of (drop x.used s))) ea'
        ∙ ap (λ (l : List ℕ). samples_of s line (header_of l)) (sym (part_end s a.used))
        ∙ ap (samples_of s line) (sym eb)

    pub whole_header : None ≡ header_told (header_of (take (length s - a.used) (drop a.used s))) → None ≡ form_told (form_of s)
    whole_header e =
        let b = header_of (take (length s - a.used) (drop a.used s)) in
        none (whole b refl ∙ samples_none s line b (missing b.ok _ e))

    module _ (b : Header) (eb : Some b ≡ header_told (header_of (take (length s - a.used) (drop a.used s)))) where
      top : HeaderRead
      top = record { ok = true; width = b.width; height = b.height; used = b.used }

      topped : form_of s ≡ samples_of s line top
      unfolding top
      topped = whole top (sym (header_given b _ eb))

      pub whole_many : 16384 < b.width * b.height → None ≡ form_told (form_of s)
      unfolding top
      whole_many h = none (topped ∙ samples_many s line top refl h)

      module _ (h : b.width * b.height ≤ 16384) where
        pub whole_else : (length s ≡ a.used + b.used + b.width * b.height → ⊥) → None ≡ form_told (form_of s)
        unfolding line top
        whole_else n = none (topped ∙ samples_else s line top refl h n)

        pub whole_done : length s ≡ a.used + b.used + b.width * b.height
            → Some (record { width = b.width; height = b.height; count = a.count; levels = a.levels; at = a.used + b.used }) ≡ form_told (form_of s)
        unfolding line top
        whole_done e = ap form_told (sym (topped ∙ samples_done s line top refl h e))
