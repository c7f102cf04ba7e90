-- Membership of a sample in a line. Assumes nothing.
-- Definitions: `inside` a sample is inside a line of words; `member_rows`, `member_verdict`, `member_answer` the call.
use Rattle.std.specs.Prelude.{Bool, false, not, ◌&&◌, List, [], ◌∷◌, ℕ, ltb, length}
use Rattle.tally.specs.Tally.{odd, tally}
use Rattle.refuse.specs.Refusal.{Verdict}
use Rattle.matte.specs.Layout.{Layout}
use Rattle.refuse.specs.Refusal.{Row, verdict, row, answer, afterwards, sides_row}
use Rattle.edgel.specs.Word.{code_of}
use Rattle.words.specs.Fit.{codes_row}
use Rattle.edgel.specs.Beside.{west_of}
use Rattle.paint.specs.declared.Membership.{Membership}
use Rattle.paint.specs.Part.{part}

module _ (L : Layout) (w : ℕ) where
  -- an odd number of its horizontal words is on row y with a column below x (01, Framing, membership, painting)
  unfoldable pub inside : List ℕ → ℕ → ℕ → Bool
  inside ws x y = odd (tally (λ u. west_of w x y (code_of L u)) ws)

  module _ (h : ℕ) (ws : List ℕ) (n x y : ℕ) where
    -- there are such a line and such a sample (01, Numbers for a refused call, 11)
    abbrev pub named : Bool
    named = ltb 0 (length (part L n ws)) && (ltb x w && ltb y h)

    -- 1 8 11, codes only (01, Numbers for a refused call)
    abbrev pub member_rows : List Row
    member_rows = sides_row w h ∷ codes_row L w h ws ∷ row 11 (not named) ∷ []

    abbrev pub member_verdict : Verdict
    member_verdict = verdict member_rows

    abbrev pub member_answer : Membership
    member_answer = record { answer = answer member_verdict 0 0; inside = afterwards member_verdict false (inside (part L n ws) x y) }
