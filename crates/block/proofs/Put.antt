-- Stores in a list as parts joined. Assumes nothing.
-- Main laws: `onto` a part stored after what is stored already; `zeroed` zeros from a place up to the check; `closed` zeros and check make a block, `closed_two` two checks two blocks.
use Rattle.std.proofs.Common.{◌≡◌, ℕ, ◌+◌, ◌-◌, ◌≤◌, List, [], ◌++◌, length, take, drop, replicate, sym, ap, ◌∙◌, ap₂, append_assoc, append-nil, arith, length-append, length-drop, take-append-drop, drop_of_length-le, length-take-le, drop-drop, take_at}
use lib.ListN.{length-replicate}
use lib.Seq.{drop-append-add}
use borrow.Rule.Slice.PartMut.{put_mid}
use Rattle.block.specs.Block.{le4, check, pad, block}

-- x stands in front of what was there; y comes next
pub onto : (x y was b : List ℕ) (i n : ℕ) → length x ≡ i → b ≡ x ++ drop i was → take i b ++ y ++ drop (i + n) b ≡ (x ++ y) ++ drop (i + n) was
onto x y was b i n l e =
    ap (λ (z : List ℕ). take i z ++ y ++ drop (i + n) z) e
    ∙ ap (λ (z : List ℕ). z ++ y ++ drop (i + n) (x ++ drop i was)) (take_at x (drop i was) i l)
    ∙ ap (λ (z : List ℕ). (x ++ y) ++ z)
    (ap (λ (j : ℕ). drop (j + n) (x ++ drop i was)) (sym l) ∙ drop-append-add x (drop i was) n ∙ drop-drop n i was)

-- the part from a place up to the check, filled with zeros
pub zeroed : (s part : List ℕ) (from : ℕ) → from ≤ 508 → length s ≡ 512 → part ≡ replicate (length (take (508 - from) (drop from s))) 0 → put_mid from (508 - from) s part ≡ pad (take from s) ++ drop 508 s
zeroed s part from h l e =
    let front = take from s in
    let room : length (take (508 - from) (drop from s)) ≡ 508 - length front =
    omega (arith, length-take-le (508 - from) (drop from s) (omega (arith, length-drop from s)), length-take-le from s (omega arith)) in
    let zeros : part ≡ replicate (508 - length front) 0 = e ∙ ap (λ (n : ℕ). replicate n 0) room in
    let to_check : from + (508 - from) ≡ 508 = omega arith in
    let rest : drop (508 - from) (drop from s) ≡ drop 508 s = drop-drop (508 - from) from s ∙ ap (λ (n : ℕ). drop n s) to_check in
    ap₂ (λ (x y : List ℕ). front ++ (x ++ y)) zeros rest ∙ sym (append_assoc front (replicate (508 - length front) 0) (drop 508 s))

-- zeros up to the check, then the check: the block
pub closed : (s p a b : List ℕ) (n sum : ℕ) → length s ≡ 512 → length p ≤ 508 → a ≡ pad p ++ drop 508 s → sum ≡ check n (take 508 a) → b ≡ take 508 a ++ le4 sum ++ drop 512 a
    → b ≡ block n (pad p)
closed s p a b n sum l m e f g =
    let lp : length (pad p) ≡ 508 = length-append p (replicate (508 - length p) 0) ∙ omega (arith, length-replicate (508 - length p) (let z : ℕ = 0 in z)) in
    let t : take 508 a ≡ pad p = ap (take 508) e ∙ take_at (pad p) (drop 508 s) 508 lp in
    let d : drop 512 a ≡ [] =
    drop_of_length-le a {i = 512} (omega (arith, ap length e, length-append (pad p) (drop 508 s), length-drop 508 s)) in
    g
    ∙ ap (λ (z : List ℕ). take 508 a ++ le4 sum ++ z) d
    ∙ append-nil (take 508 a ++ le4 sum)
    ∙ ap (λ (z : ℕ). take 508 a ++ le4 z) f
    ∙ ap (λ (z : List ℕ). z ++ le4 (check n z)) t

-- two payloads of 508 bytes, 512 apart, and the check after each: two blocks
pub closed_two : (s a b : List ℕ) (n x y : ℕ) → length s ≡ 1024 → x ≡ check n (take 508 s) → y ≡ check (n + 1) (take 508 (drop 512 s))
    → a ≡ take 508 s ++ le4 x ++ drop 512 s → b ≡ take 1020 a ++ le4 y ++ drop 1024 a → b ≡ block n (take 508 s) ++ block (n + 1) (take 508 (drop 512 s))
closed_two s a b n x y l f g e h =
    let q = take 508 (drop 512 s) in
    let first = take 508 s ++ le4 x in
    let lf : length first ≡ 512 = length-append (take 508 s) (le4 x) ∙ omega (arith, length-take-le 508 s (omega arith)) in
    let lq : length q ≡ 508 = length-take-le 508 (drop 512 s) (omega (arith, length-drop 512 s)) in
    let u : a ≡ (first ++ q) ++ drop 1020 s =
    e
    ∙ ap (λ (z : List ℕ). first ++ z) (sym (take-append-drop 508 (drop 512 s)) ∙ ap (λ (z : List ℕ). q ++ z) (drop-drop 508 512 s))
    ∙ sym (append_assoc first q (drop 1020 s)) in
    h
    ∙ onto (first ++ q) (le4 y) s a 1020 4 (length-append first q ∙ omega (arith, lf, lq)) u
    ∙ ap (λ (z : List ℕ). (first ++ q ++ le4 y) ++ z) (drop_of_length-le s {i = 1024} (omega arith))
    ∙ append-nil (first ++ q ++ le4 y)
    ∙ append_assoc first q (le4 y)
    ∙ ap₂ (λ (i j : ℕ). (take 508 s ++ le4 i) ++ (q ++ le4 j)) f g
