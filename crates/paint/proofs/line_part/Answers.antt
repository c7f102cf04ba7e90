-- `paint::line_part` meets its contract: from the line's first word up to the next flag, in the list itself. Assumes nothing.
use Rattle.std.proofs.Common.{◌≡◌, ℕ, ◌+◌, ◌-◌, ◌*◌, ◌<◌, List, length, take, drop, sym, ap, ◌∙◌, arith, length-drop}
use lib.Seq.{drop-length, take_all}
use Rattle.tally.specs.Tally.{first_at}
use Rattle.matte.specs.Layout.{eight}
use Rattle.edgel.specs.Word.{flagged}
use Rattle.paint.specs.Part.{part, words_before, word_on, rest}
use Rattle.paint.specs.Span.{whole}
use Rattle.paint.proofs.Lines.{whole_at, part_before, start_here, start_none}
use Rattle.paint.proofs.Parts.{rest_take}
use Rattle.paint.proofs.line_part.Goals as goal

-- the part from b to the end
to_end : (s : List ℕ) (b : ℕ) → take (length s - b) (drop b s) ≡ drop b s
to_end s b = take_all (length s - b) (drop b s) (omega (arith, length-drop b s))

-- the words before the next flag, as many as were found
found : (s : List ℕ) (r : ℕ) → r ≡ first_at (flagged eight) s → rest eight s ≡ take r s
found s r e = rest_take eight s ∙ ap (λ (k : ℕ). take k s) (sym e)

there : (s : List ℕ) (n a : ℕ) → a ≡ words_before eight n s → part eight n s ≡ whole eight (drop a s)
there s n a e = part_before eight n s ∙ ap (λ (k : ℕ). whole eight (drop k s)) (sym e)

-- the address of the part
on-by : {s : ℕ} (p : ℕ × ℕ) (a : ℕ) → a ≡ s → (p.0, a * 4 + p.1) ≡ word_on p s
on-by {s} p a e = ap (λ (o : ℕ). (p.0, o)) (omega arith)

pub returns-then-a-words : goal.returns-then-a-words
returns-then-a-words c =
    let s = c.args.words.now in
    let a = c.words_before-a.result in
    let r = c.run_of.result in
    let h : a < length s = omega arith in (
      whole_at eight s a h r (a + 1 + r - a) (found _ r (rw (to_end s (a + 1)) at c.run_of.ensures.0)) (omega arith) ∙ sym (there s c.args.n a c.words_before-a.ensures.1),
      on-by c.args.words.ref_ptr a (c.words_before-a.ensures.1 ∙ sym (start_here eight c.args.n s (omega (arith, c.words_before-a.ensures.1)))),
    )

pub returns : goal.returns
unfolding whole
returns c =
    let s = c.args.words.now in
    let a = c.words_before-a.result in
    let n = c.args.n in
    let e : a ≡ length s = omega (arith, c.words_before-a.ensures.0) in
    (sym (there s n a c.words_before-a.ensures.1 ∙ rw (e, drop-length s)), on-by c.args.words.ref_ptr 0 (sym (start_none eight n s (omega (arith, c.words_before-a.ensures.1)))))
