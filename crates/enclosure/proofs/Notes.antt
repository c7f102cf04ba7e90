-- Notes written at the ranks of all crossings while the lines are followed, in a list of any kind of note. Assumes nothing.
-- Definitions: `Seen L P ks r m d` the crossing of rank r is line m's on the edgel d; `Noted L P ks note n i u` the lines below n, and of line n the first i crossings, have their notes at their ranks
--   in u; `Told` a rank with the line and the edgel that its note tells.
-- Main laws: `noted_start`, `noted_flat` a horizontal crossing is noted, `noted_tall` a vertical one is not, `noted_line` a line is done; `rank_seen` every rank is some crossing's; `noted_end`
--   at the end each rank holds its note.
use mathlib.Core.Path.{◌≡◌, sym, ap, ◌∙◌}
use mathlib.Core.Bool.{true, false}
use mathlib.Core.List.{List}
use mathlib.Core.Logic.{◌≢◌}
use Prim.Native.Nat.{ℕ, ◌+◌, ◌*◌, ◌≤◌, ◌<◌}
use native.Mathlib.Omega.{arith}
use lib.Dec.{eqb}
use lib.ListN.{length, get_or, set}
use lib.Seq.{get_or-set_same, get_or-set_other}
use borrow.Author.Tests.{eqb-true, eqb-false}
use Rattle.tally.specs.Tally.{total}
use Rattle.tally.proofs.Test.{by_test, no}
use Rattle.tally.proofs.Count.{count_at}
use Rattle.matte.specs.Layout.{Layout}
use Rattle.matte.specs.Picture.{Picture, size}
use Rattle.edgel.specs.Edgel.{horizontal}
use Rattle.enclosure.specs.Tree.{line_count, crossings_at}
use Rattle.enclosure.specs.Call.{heads}
use Rattle.enclosure.proofs.Lists.{count_where}
use Rattle.enclosure.proofs.Order.{key_inj}
use Rattle.enclosure.proofs.Lines.{Setting, small}
use Rattle.enclosure.proofs.Tree.{line_of}
use Rattle.enclosure.proofs.Rank.{rank, rank_once, rank_has, pos_at, On, cross_on, owner, on_once}
use Rattle.enclosure.proofs.Running.{rank_place, run_total, rank_below}

pub record Seen (L : Layout) (P : Picture) (ks : List ℕ) (r m d : ℕ) : Type 0 where
  pub on : On L P ks m d
  pub rank : rank L P ks (pos_at L P ks m d) ≡ r

module _ (L : Layout) (P : Picture) (ks : List ℕ) (note : ℕ → ℕ → ℕ) where
  pub record Noted (n i : ℕ) (u : List ℕ) : Type 0 where
    pub lines : (m d : ℕ) → On L P ks m d → m < n → get_or u (rank L P ks (pos_at L P ks m d)) 0 ≡ note m d
    pub part : (j : ℕ) → j < i → j < length (crossings_at L P ks n) → horizontal (get_or (crossings_at L P ks n) j 0) ≡ true
        → get_or u (rank L P ks (pos_at L P ks n (get_or (crossings_at L P ks n) j 0))) 0 ≡ note n (get_or (crossings_at L P ks n) j 0)

  pub record Told (u : List ℕ) (r : ℕ) : Type 0 where
    pub m : ℕ
    pub d : ℕ
    pub seen : Seen L P ks r m d
    pub says : get_or u r 0 ≡ note m d

module _ {L : Layout} {P : Picture} {ks : List ℕ} (S : Setting L P ks) where
  -- every rank is some crossing's, and only one's
  pub rank_seen : (r : ℕ) → 0 < L.levels → r < total (heads P) ks → (m : ℕ) × (d : ℕ) × Seen L P ks r m d
  rank_seen r p l =
      let x = rank_has L P ks r (2 * size P * L.levels) (omega (arith, rank_place S (size P), run_total S)) in
      let W = owner S x.0 p x.2 in
      (W.m, W.d, record { on = W.on; rank = ap (rank L P ks) W.same ∙ x.3 })

  pub seen_once : (r m d n e : ℕ) → Seen L P ks r m d → Seen L P ks r n e → (m ≡ n) × (d ≡ e)
  unfolding line_of
  seen_once r m d n e X Y =
      let s : pos_at L P ks m d ≡ pos_at L P ks n e =
      rank_once L P ks (pos_at L P ks m d) (pos_at L P ks n e) (cross_on S m d X.on) (cross_on S n e Y.on) (X.rank ∙ sym Y.rank) in (
        on_once S m n d e X.on Y.on s,
        (key_inj P L.levels _ _ d e (small S (line_of S m X.on.number)) (small S (line_of S n Y.on.number)) s).0,
      )

  module _ (note : ℕ → ℕ → ℕ) where
    pub noted_start : (u : List ℕ) → Noted L P ks note 0 0 u
    noted_start u = record { lines = λ m d A l. absurd (omega arith); part = λ j a b f. absurd (omega arith) }

    module _ (n i : ℕ) (u : List ℕ) (X : Noted L P ks note n i u) (a : n < line_count L P ks) where
      abbrev l : List ℕ
      l = crossings_at L P ks n

      on_at : (j : ℕ) → j < length l → horizontal (get_or l j 0) ≡ true → On L P ks n (get_or l j 0)
      on_at j b f = record { number = a; flat = f; here = count_at l j b }

      -- the next crossing is horizontal: its note goes to its rank
      pub noted_flat : (c r v : ℕ) → i < length (crossings_at L P ks n) → get_or (crossings_at L P ks n) i 0 ≡ c → horizontal c ≡ true → r ≡ rank L P ks (pos_at L P ks n c) → v ≡ note n c
          → total (heads P) ks ≤ length u → Noted L P ks note n (i + 1) (set u r v)
      noted_flat c r v b s f e g room =
          let A : On L P ks n c = record { number = a; flat = f; here = rw (sym s) (count_at l i b) } in
          let k : r < length u = omega (arith, rank_below S n c A) in
          record {
            lines = λ m d D t.
                let q : rank L P ks (pos_at L P ks m d) ≢ r =
                λ z.
                let w = seen_once r m d n c (record { on = D; rank = z }) (record { on = A; rank = sym e }) in
                omega (arith, w.0) in
                get_or-set_other u r (rank L P ks (pos_at L P ks m d)) v 0 q ∙ X.lines m d D t;
            part = λ j x y h.
                by_test (eqb (get_or l j 0) c)
                (λ t.
                let z : get_or l j 0 ≡ c = eqb-true _ _ t in
                ap (λ (w : ℕ). get_or (set u r v) (rank L P ks (pos_at L P ks n w)) 0) z
                ∙ ap (λ (w : ℕ). get_or (set u r v) w 0) (sym e)
                ∙ get_or-set_same u r v 0 k
                ∙ g
                ∙ ap (note n) (sym z))
                (λ t.
                let D = on_at j y h in
                let o : j ≢ i = λ z. eqb-false (get_or l j 0) c t (ap (λ (w : ℕ). get_or l w 0) z ∙ s) in
                let q : rank L P ks (pos_at L P ks n (get_or l j 0)) ≢ r =
                λ z. eqb-false (get_or l j 0) c t (seen_once r n (get_or l j 0) n c (record { on = D; rank = z }) (record { on = A; rank = sym e })).1 in
                get_or-set_other u r (rank L P ks (pos_at L P ks n (get_or l j 0))) v 0 q ∙ X.part j (omega arith) y h);
          }

      -- it is vertical: there is nothing to note
      pub noted_tall : i < length (crossings_at L P ks n) → horizontal (get_or (crossings_at L P ks n) i 0) ≡ false → Noted L P ks note n (i + 1) u
      noted_tall b f =
          record {
            lines = X.lines;
            part = λ j x y h.
                let o : j ≢ i = λ z. no h (ap (λ (w : ℕ). horizontal (get_or l w 0)) z ∙ f) in
                X.part j (omega arith) y h;
          }

      -- all crossings of line n are done
      pub noted_line : i ≡ length (crossings_at L P ks n) → Noted L P ks note (n + 1) 0 u
      noted_line e =
          record {
            lines = λ m d D t.
                by_test (eqb m n)
                (λ x.
                let s : m ≡ n = eqb-true m n x in
                let j = count_where d l (rw (sym s) D.here) in
                let f : horizontal (get_or l j.0 0) ≡ true = ap horizontal j.2 ∙ D.flat in
                ap (λ (w : ℕ). get_or u (rank L P ks (pos_at L P ks w d)) 0) s
                ∙ ap (λ (w : ℕ). get_or u (rank L P ks (pos_at L P ks n w)) 0) (sym j.2)
                ∙ X.part j.0 (omega (arith, j.1)) j.1 f
                ∙ ap (note n) j.2
                ∙ ap (λ (w : ℕ). note w d) (sym s))
                (λ x. X.lines m d D (omega (arith, eqb-false m n x)));
            part = λ j x y h. absurd (omega arith);
          }

    pub noted_end : (u : List ℕ) → Noted L P ks note (line_count L P ks) 0 u → 0 < L.levels → (r : ℕ) → r < total (heads P) ks → Told L P ks note u r
    noted_end u X p r l =
        let x = rank_seen r p l in
        let A = x.2.on in
        record { m = x.0; d = x.1; seen = x.2; says = ap (λ (z : ℕ). get_or u z 0) (sym x.2.rank) ∙ X.lines x.0 x.1 A A.number }
