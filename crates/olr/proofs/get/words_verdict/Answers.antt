-- `olr::get::words_verdict` meets its contract. Assumes nothing.
use Rattle.std.proofs.Common.{◌≡◌, refl, sym, ap₂, ◌∙◌, List, [], ◌∷◌, ℕ, ltb}
use Rattle.tally.specs.Tally.{first_at}
use Rattle.matte.specs.Layout.{eight}
use Rattle.refuse.specs.Refusal.{Verdict, row_at, verdict}
use Rattle.words.specs.Fit.{bad_word, words_fit_row}
use Rattle.olr.specs.Read.{file_width, file_height, file_levels, file_words, file_word_count}
use Rattle.olr.proofs.Laid.{laid, laid_holds, laid_sides}
use Rattle.olr.proofs.Taken.{words_length}
use Rattle.olr.proofs.Read.{bad_at}
use Rattle.olr.proofs.get.words_verdict.Goals as goal

bad-at : {x y : ℕ} (f : List ℕ) → x ≡ file_width f → y ≡ file_height f → first_at (bad_word eight x y (file_levels f)) (file_words f) ≡ bad_at f
bad-at f p q = ap₂ (λ (s t : ℕ). first_at (bad_word eight s t (file_levels f)) (file_words f)) p q

-- the code counts words by the number that block 0 says
given-8 : (f : List ℕ) (k n : ℕ) (v : Verdict) → k ≡ bad_at f → n ≡ file_word_count f → v ≡ verdict (row_at 8 (ltb k n) k ∷ [])
    → v ≡ verdict (words_fit_row eight (file_width f) (file_height f) (file_levels f) (file_words f) ∷ [])
given-8 f k n v e m q = q ∙ rw (e, m, sym (words_length f)) refl

pub invariant_of-size : goal.invariant_of-size
invariant_of-size c = record { fits = laid_sides c.args.file.bytes.now _ _ (laid c.args.file.bytes.now c.requires.0) c.num2_at.ensures.0 c.num2_at-2.ensures.0 }

pub first_bad-k-requires : goal.first_bad-k-requires
first_bad-k-requires c = laid_holds c.args.file.bytes.now c.args.n (laid c.args.file.bytes.now c.requires.0) c.requires.1

pub returns : goal.returns
returns c =
    let f = c.args.file.bytes.now in
    given-8 f _ _ _ (c.first_bad-k.ensures ∙ bad-at f c.num2_at.ensures.0 c.num2_at-2.ensures.0) c.requires.1 c.row_verdict.ensures
