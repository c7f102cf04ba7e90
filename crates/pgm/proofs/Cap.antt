-- Values as the code keeps them: past 65,535 one more digit changes nothing. Assumes nothing.
-- Main laws: `cap_small`, `cap_large`, `cap_most` what a kept value is; `cap_step` one digit more; `cap_number` a number read on from a kept value; `cap_fits` a kept value is at most a small bound exactly if the value is; `cap_side` a kept side fits exactly if the side does.
use mathlib.Core.Path.{◌≡◌, sym, ap, ◌∙◌}
use mathlib.Core.Bool.{Bool, false, ◌&&◌, cond}
use mathlib.Core.List.{List, [], ◌∷◌}
use Prim.Native.Nat.{ℕ, suc, ◌+◌, ◌-◌, ◌*◌, ◌≤◌, ◌<◌}
use native.Mathlib.Omega.{arith}
use borrow.Author.Tests.{le-leb, lt-leb, leb-true, leb-false}
use lib.Dec.{leb}
use Rattle.tally.proofs.Test.{by_test}
use Rattle.matte.specs.Picture.{side_fits}
use Rattle.form.specs.Reader.{is_digit}
use Rattle.pgm.specs.Reader.{cap, capped, number_from}

pub cap_small : (v : ℕ) → v ≤ 65535 → cap v ≡ v
cap_small v h = ap (λ (b : Bool). cond b v 65535) (le-leb v 65535 h)

pub cap_large : (v : ℕ) → 65535 < v → cap v ≡ 65535
cap_large v h = ap (λ (b : Bool). cond b v 65535) (lt-leb v 65535 h)

-- the two cases of a kept value
by_cap : {P : Type 0} (v : ℕ) → (v ≤ 65535 → cap v ≡ v → P) → (65535 < v → cap v ≡ 65535 → P) → P
by_cap v f g = by_test (leb v 65535) (λ t. let h = leb-true v 65535 t in f h (cap_small v h)) (λ t. let h = leb-false v 65535 t in g h (cap_large v h))

pub cap_most : (v : ℕ) → cap v ≤ 65535
cap_most v = by_cap v (λ h e. omega arith) (λ h e. omega arith)

pub cap_step : (v d : ℕ) → cap (cap v * 10 + d) ≡ cap (v * 10 + d)
cap_step v d =
    by_cap v
    (λ h e. ap (λ (z : ℕ). cap (z * 10 + d)) e)
    (λ h e. ap (λ (z : ℕ). cap (z * 10 + d)) e ∙ cap_large (65535 * 10 + d) (omega arith) ∙ sym (cap_large (v * 10 + d) (omega arith)))

pub cap_number : (p v i : ℕ) (l : List ℕ) → capped (number_from p (cap v) i l) ≡ capped (number_from p v i l)
unfolding number_from
cap_number p v i [] = ap (λ (z : ℕ). record { first = p; value = z; next = i }) (cap_small (cap v) (cap_most v))
cap_number p v i (b ∷ l) =
    by_test (is_digit b)
    (λ t.
    let d = b - 48 in
    rw (t, number_from)
    (sym (cap_number p (cap v * 10 + d) (suc i) l)
    ∙ ap (λ (z : ℕ). capped (number_from p z (suc i) l)) (cap_step v d)
    ∙ cap_number p (v * 10 + d) (suc i) l))
    (λ t. rw (t, number_from) (ap (λ (z : ℕ). record { first = p; value = z; next = i }) (cap_small (cap v) (cap_most v))))

pub cap_fits : (v m : ℕ) → m ≤ 65534 → leb (cap v) m ≡ leb v m
cap_fits v m k =
    by_cap v
    (λ h e. ap (λ (z : ℕ). leb z m) e)
    (λ h e. ap (λ (z : ℕ). leb z m) e ∙ lt-leb 65535 m (omega arith) ∙ sym (lt-leb v m (omega arith)))

pub cap_least : (v : ℕ) → leb 1 (cap v) ≡ leb 1 v
cap_least v =
    by_cap v
    (λ h e. ap (leb 1) e)
    (λ h e. ap (leb 1) e ∙ le-leb 1 65535 (omega arith) ∙ sym (le-leb 1 v (omega arith)))

pub cap_side : (v : ℕ) → side_fits (cap v) ≡ side_fits v
cap_side v =
    by_cap v
    (λ h e. ap side_fits e)
    (λ h e. ap side_fits e ∙ sym (ap (λ (z : Bool). leb 2 v && z) (lt-leb v 2048 (omega arith)) ∙ ap (λ (z : Bool). z && false) (le-leb 2 v (omega arith))))
