-- The paper's small pictures (a) to (j), as one table. Assumes nothing.
-- Definitions: `dot`, `hole`, `pair`, `flat` the pictures; `shown` the table, each row lines, tree entries, case numbers of a piece or refusal numbers, worked out from the definitions; `expected` as the paper has it.
use Rattle.std.specs.Prelude.{Bool, true, false, List, [], ◌∷◌, ◌++◌, ℕ, ◌*◌, replicate}
use Rattle.matte.specs.Layout.{eight}
use Rattle.matte.specs.Picture.{Picture, picture}
use Rattle.outline.specs.Line.{lines}
use Rattle.outline.specs.List.{list_verdict}
use Rattle.enclosure.specs.Tree.{entries}
use Rattle.piece.specs.Piece.{piece_answer}
use Rattle.frame.specs.Frame.{frame_verdict}

-- the pictures: 3 by 3 with a centre, the 4 by 4 of the paper's example, and flat ones (01, Small pictures to hold by proof)
abbrev pub dot : Picture
dot = picture 3 3 (0 ∷ 0 ∷ 0 ∷ 0 ∷ 1 ∷ 0 ∷ 0 ∷ 0 ∷ 0 ∷ [])

abbrev pub hole : Picture
hole = picture 3 3 (1 ∷ 1 ∷ 1 ∷ 1 ∷ 0 ∷ 1 ∷ 1 ∷ 1 ∷ 1 ∷ [])

abbrev pub pair : Picture
pair = picture 4 4 (0 ∷ 0 ∷ 0 ∷ 0 ∷ 0 ∷ 3 ∷ 0 ∷ 0 ∷ 0 ∷ 0 ∷ 3 ∷ 0 ∷ 0 ∷ 0 ∷ 0 ∷ 0 ∷ [])

abbrev pub flat : ℕ → ℕ → Picture
flat w h = picture w h (replicate (w * h) 5)

-- the table's rows, each a list of lists of numbers
abbrev pub shown : List (List (List ℕ))
shown =
    lines dot 0
    ∷ lines hole 0
    ∷ (entries eight hole (0 ∷ []) ∷ [])
    ∷ lines pair 0
    ∷ lines pair 1
    ∷ lines (flat 3 3) 0
    ∷ lines (flat 3 3) 5
    ∷ lines (flat 2 2) 0
    ∷ lines (flat 2 2) 5
    ∷ (entries eight pair (0 ∷ 1 ∷ []) ∷ [])
    ∷ (((piece_answer eight pair 0 1 1).piece.number ∷ (piece_answer eight pair 1 1 1).piece.number ∷ []) ∷ [])
    ∷ (((list_verdict eight (flat 2 2) (254 ∷ []) (replicate 4 0) []).number ∷ (list_verdict eight (flat 2 2) (255 ∷ []) (replicate 4 0) []).number ∷ []) ∷ [])
    ∷ (((frame_verdict eight (flat 2048 2) (replicate 4096 0)).number ∷ (frame_verdict eight (flat 2 2048) (replicate 4096 0)).number ∷ (frame_verdict eight (flat 2049 2) (replicate 4098 0)).number ∷ (frame_verdict eight (flat 2 2049) (replicate 4098 0)).number ∷ []) ∷ [])
    ∷ []

-- (a) to (j), with the entry of (b)'s line, which is lower (01, Small pictures to hold by proof) (02, R-2)
abbrev pub expected : List (List (List ℕ))
expected =
    ((6 ∷ 9 ∷ 8 ∷ 3 ∷ []) ∷ [])
    ∷ ((6 ∷ 3 ∷ 8 ∷ 9 ∷ []) ∷ [])
    ∷ ((2147483648 ∷ []) ∷ [])
    ∷ ((8 ∷ 11 ∷ 18 ∷ 21 ∷ 20 ∷ 13 ∷ 10 ∷ 3 ∷ []) ∷ [])
    ∷ ((8 ∷ 11 ∷ 10 ∷ 3 ∷ []) ∷ (18 ∷ 21 ∷ 20 ∷ 13 ∷ []) ∷ [])
    ∷ []
    ∷ []
    ∷ []
    ∷ []
    ∷ ((0 ∷ 1 ∷ 1 ∷ []) ∷ [])
    ∷ ((3 ∷ 2 ∷ []) ∷ [])
    ∷ ((0 ∷ 3 ∷ []) ∷ [])
    ∷ ((0 ∷ 0 ∷ 1 ∷ 1 ∷ []) ∷ [])
    ∷ []
