-- `follow::trace_line` meets its contract: the first word is stored again, flagged. Assumes nothing.
use mathlib.Core.Path.{sym, ap, ◌∙◌}
use mathlib.Core.Bool.{Bool, true, false}
use mathlib.Core.List.{List}
use Prim.Native.Nat.{ℕ, ◌+◌, ◌*◌, ◌/◌, ◌<◌}
use native.Mathlib.Omega.{arith}
use lib.ListN.{length, set}
use Rattle.matte.specs.Picture.{picture}
use Rattle.edgel.specs.Word.{word}
use Rattle.outline.specs.Line.{line}
use Rattle.outline.specs.List.{encode}
use Rattle.count.proofs.Flat.{area_most}
use Rattle.store.specs.Store.{samples_of}
use Rattle.matte.specs.Layout.{layout_of}
use Rattle.follow.specs.Words.{pasted}
use Rattle.follow.proofs.Tracing.{place_in}
use Rattle.follow.proofs.Flag.{line_cons, flag_first}
use Rattle.follow.proofs.Plain.{first_word, pasted_length}
use Rattle.follow.proofs.trace_line.Goals as goal

pub overflow_cast-e : goal.overflow_cast-e
overflow_cast-e g c =
    let S = g.T.Sample in
    let W = g.P.Place.words in
    let z = c in
    let a = z.args in
    let r : 2 * a.e / 2 < a.w * a.h = place_in (picture a.w a.h (samples_of S.wide a.px.now)) z.requires.0 (S.value a.k) (2 * a.e) z.requires.3 in
    omega (arith, area_most z.requires.0, z.requires.0.whole, z.requires.5)

pub overflow_mul-e : goal.overflow_mul-e
overflow_mul-e g c =
    let S = g.T.Sample in
    let W = g.P.Place.words in
    let z = c in
    let a = z.args in
    let r : 2 * a.e / 2 < a.w * a.h = place_in (picture a.w a.h (samples_of S.wide a.px.now)) z.requires.0 (S.value a.k) (2 * a.e) z.requires.3 in
    omega (arith, area_most z.requires.0, z.requires.0.whole, z.requires.5)

pub overflow_add-e : goal.overflow_add-e
overflow_add-e g c =
    let S = g.T.Sample in
    let W = g.P.Place.words in
    let z = c in
    let a = z.args in
    let r : 2 * a.e / 2 < a.w * a.h = place_in (picture a.w a.h (samples_of S.wide a.px.now)) z.requires.0 (S.value a.k) (2 * a.e) z.requires.3 in
    omega (arith, area_most z.requires.0, z.requires.0.whole, z.requires.5, c.base_of-base.ensures.1)

pub overflow_add-e-2 : goal.overflow_add-e-2
overflow_add-e-2 g c =
    let S = g.T.Sample in
    let W = g.P.Place.words in
    let z = c in
    let a = z.args in
    let r : 2 * a.e / 2 < a.w * a.h = place_in (picture a.w a.h (samples_of S.wide a.px.now)) z.requires.0 (S.value a.k) (2 * a.e) z.requires.3 in
    omega (arith, area_most z.requires.0, z.requires.0.whole, z.requires.5, c.base_of-base.ensures.1)

pub put-requires : goal.put-requires
put-requires g c =
    let S = g.T.Sample in
    let W = g.P.Place.words in
    let z = c in
    let a = z.args in
    let P = picture a.w a.h (samples_of S.wide a.px.now) in
    let n = line_cons P z.requires.0 (S.value a.k) (2 * a.e) z.requires.3 in
    rw c.follow-n.ensures.2 (omega (arith, pasted_length (layout_of S.wide) (S.value a.k) false (W a.words.now) a.from (line P (S.value a.k) (2 * a.e)) z.requires.4, z.requires.4, ap length n.1))

pub returns : goal.returns
returns g c =
    let S = g.T.Sample in
    let W = g.P.Place.words in
    let z = c in
    let a = z.args in
    let f = c.follow-n in
    let L = layout_of S.wide in
    let U = W a.words.now in
    let P = picture a.w a.h (samples_of S.wide a.px.now) in
    let n = line_cons P z.requires.0 (S.value a.k) (2 * a.e) z.requires.3 in
    let F : Bool → List ℕ → List ℕ = λ b l. pasted U a.from (encode L (S.value a.k) b l) in (
      f.ensures.0,
      f.ensures.1,
      c.put.ensures
          ∙ ap (λ (l : List ℕ). set l a.from (2 * a.e + c.base_of-base.result + 2147483648)) f.ensures.2
          ∙ ap (λ (v : ℕ). set (F false (line P (S.value a.k) (2 * a.e))) a.from v) (first_word S.wide (2 * a.e) (S.value a.k) c.base_of-base.result c.base_of-base.ensures.0)
          ∙ ap (λ (l : List ℕ). set (F false l) a.from (word L (2 * a.e) (S.value a.k) true)) n.1
          ∙ flag_first L (S.value a.k) (2 * a.e) n.0 U a.from (omega (arith, z.requires.4))
          ∙ ap (F true) (sym n.1),
    )
