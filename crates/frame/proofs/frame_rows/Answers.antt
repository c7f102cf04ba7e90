-- `frame::frame_rows` meets its contract, run by run. Assumes nothing.
use Rattle.std.proofs.Common.{◌≡◌, ℕ, ◌+◌, ◌-◌, ◌*◌, ◌<◌, ◌≤◌, List, length, get_or, take, refl, sym, ap, ◌∙◌, arith}
use borrow.Rule.Slice.PartMut.{put_mid, same_len_mid}
use Rattle.std.specs.List.{between}
use Rattle.std.proofs.lemmas.List.{length-take}
use Rattle.std.proofs.lemmas.List.Edits.{length-between, get_or-between}
use Rattle.fill.specs.Filled.{Filled}
use Rattle.fill.proofs.Fills.{filled_none}
use Rattle.frame.specs.Framing.{framing}
use Rattle.frame.proofs.Edge.{on_top, on_left_lem, on_right, on_bottom, off_middle}
use Rattle.frame.proofs.Rounds.{rows_le}
use Rattle.frame.proofs.Writes.{framing_on, framing_off, filled_run, row_ends}
use Rattle.frame.proofs.frame_rows.Goals as goal

pub loop-y-init : goal.loop-y-init
loop-y-init c =
    let a = c.args in
    let S = c.args.size.fits in
    let F = framing a.size.width a.size.height a.v a.px.now in
    let r = rows_le a.size.width a.size.height S 0 (omega (arith, S.h_least)) in
    let m : length (take a.size.width a.room.now) ≡ a.size.width = omega (arith, length-take a.size.width a.room.now, r, c.requires.1) in
    let e : 0 + a.size.width ≡ 1 * a.size.width = omega arith in
    filled_run F a.room.now a.room.now c.fill.new.self 0 a.size.width (1 * a.size.width) (filled_none F a.room.now) e (omega (arith, r, c.requires.1)) (c.fill.ensures.len ∙ m)
    (λ j p l.
    c.fill.ensures.clones (j - 0) 0 (omega (arith, m)) refl ∙ framing_on a.size.width a.size.height a.v a.px.now j (on_top a.size.width a.size.height j (omega arith)))

pub loop-y-preserved : goal.loop-y-preserved
loop-y-preserved c =
    let a = c.args in
    let S = c.args.size.fits in
    let F = framing a.size.width a.size.height a.v a.px.now in
    let y = c.loop-y.y in
    let i = y * a.size.width in
    let t : y + 1 < a.size.height = omega (arith, c.loop-y-test.true) in
    let r = rows_le a.size.width a.size.height S y (omega arith) in
    let n : i + a.size.width ≤ length c.loop-y.room = omega (arith, r, c.loop-y.invariant.long, c.requires.1) in
    let k : i + (i + a.size.width - i) ≡ i + a.size.width = omega arith in
    let m : length c.copy.new.to ≡ i + a.size.width - i = c.copy.ensures.len ∙ length-between c.loop-y.room i (i + a.size.width) n in
    let e : i + a.size.width ≡ (y + 1) * a.size.width = omega arith in
    let x : (j : ℕ) → i ≤ j → j < i + a.size.width → get_or c.copy.new.to (j - i) 0 ≡ get_or a.px.now j 0 =
    λ j p q.
    ap (λ (l : List ℕ). get_or l (j - i) 0) c.copy.ensures.after
    ∙ get_or-between a.px.now i (i + a.size.width) (j - i) 0 (omega arith)
    ∙ ap (λ (z : ℕ). get_or a.px.now z 0) (omega arith) in
    rw (← e)
    (row_ends F (λ j. get_or a.px.now j 0) a.room.now c.loop-y.room (put_mid i (i + a.size.width - i) c.loop-y.room c.copy.new.to) i (i + a.size.width) a.v
    (omega (arith, S.w_least)) (omega (arith, n, m, same_len_mid i (i + a.size.width - i) c.loop-y.room c.copy.new.to c.copy.ensures.len)) c.loop-y.invariant
    (framing_on _ _ _ _ i (on_left_lem _ _ y i (omega (arith, S.w_least)) refl))
    (λ j p q. framing_off _ _ _ _ j (off_middle _ _ y j c.loop-y.auto.y t p q))
    (framing_on _ _ _ _ (i + a.size.width - 1) (on_right _ _ y (i + a.size.width - 1) (omega (arith, S.w_least)) (omega (arith, S.w_least))))
    (λ f G q. filled_run f a.room.now c.loop-y.room c.copy.new.to i (i + a.size.width - i) (i + a.size.width) G k n m (λ j o l. x j o l ∙ q j o l)))

pub returns : goal.returns
returns c =
    let a = c.args in
    let S = c.args.size.fits in
    let F = framing a.size.width a.size.height a.v a.px.now in
    let n = c.area-n.result in
    let y = a.size.height - 1 in
    let e : c.loop-y.y ≡ y = omega (arith, c.loop-y.auto.y-end, c.loop-y-test.false, S.h_least) in
    let s : y + 1 ≡ a.size.height = omega (arith, S.h_least) in
    let t : a.size.width * a.size.height ≡ a.size.width * (y + 1) = ap (λ (z : ℕ). a.size.width * z) (sym s) in
    let i : y * a.size.width ≡ n - a.size.width = omega (arith, c.area-n.ensures.0) in
    let U : Filled F a.room.now (n - a.size.width) c.loop-y.room = rw i at (rw e at c.loop-y.invariant) in
    let l : a.size.width * a.size.height ≤ length c.loop-y.room = omega (arith, U.long, c.requires.1) in
    let m : length (between (n - a.size.width) n c.loop-y.room) ≡ n - (n - a.size.width) = length-between c.loop-y.room (n - a.size.width) n (omega (arith, c.area-n.ensures.0)) in
    filled_run F a.room.now c.loop-y.room c.fill-2.new.self (n - a.size.width) (n - (n - a.size.width)) (a.size.width * a.size.height) U (omega (arith, c.area-n.ensures.0)) l (c.fill-2.ensures.len ∙ m)
    (λ j p q.
    c.fill-2.ensures.clones (j - (n - a.size.width)) 0 (omega (arith, m, c.area-n.ensures.0)) refl
    ∙ framing_on a.size.width a.size.height a.v a.px.now j (on_bottom a.size.width a.size.height y j s (omega arith) (omega (arith, t))))
