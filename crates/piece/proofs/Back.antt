-- A case's number and values settle the case. Assumes nothing.
-- Definitions: `piece_by` the piece of a number and values; `found_by` the answer that is told so.
-- Main laws: `piece_back`, `found_back` what is told of a piece or of an answer gives it back; `case_once` so two pieces told alike are one.
use mathlib.Core.Path.{◌≡◌, refl, sym, ap, ◌∙◌}
use mathlib.Core.List.{List, [], ◌∷◌}
use Prim.Native.Nat.{ℕ, zero, suc}
use lib.Ieee.{Float}
use Rattle.piece.specs.declared.Found.{Found}
use Rattle.piece.specs.declared.Piece.{Piece}
use Rattle.piece.specs.declared.Piece.TheVariants.{Refused, Straight, Corner, Branch}
use Rattle.piece.specs.Piece.{Case, case_of, Told, told}

abbrev corner_by : List Float → Piece
corner_by [] = Refused
corner_by (x ∷ []) = Refused
corner_by (x ∷ y ∷ l) = Corner (record { xs = x; ys = y })

abbrev branch_by : List Float → Piece
branch_by [] = Refused
branch_by (x ∷ []) = Refused
branch_by (x ∷ y ∷ []) = Refused
branch_by (x ∷ y ∷ e ∷ l) = Branch (record { xs = x; ys = y }) e

abbrev by_number : ℕ → List Float → Piece
by_number zero vs = Refused
by_number (suc zero) vs = Straight
by_number (suc (suc zero)) vs = corner_by vs
by_number (suc (suc (suc n))) vs = branch_by vs

abbrev pub piece_by : Case → Piece
piece_by v = by_number v.number v.values

pub piece_back : (p : Piece) → piece_by (case_of p) ≡ p
piece_back Refused = refl
piece_back Straight = refl
piece_back (Corner z) = refl
piece_back (Branch z e) = refl

pub case_once : (p q : Piece) → case_of p ≡ case_of q → p ≡ q
case_once p q e = sym (piece_back p) ∙ ap piece_by e ∙ piece_back q

abbrev pub found_by : Told → Found
found_by t = record { answer = t.answer; piece = piece_by t.piece }

pub found_back : (f : Found) → found_by (told f) ≡ f
found_back f = ap (λ (p : Piece). record { answer = f.answer; piece = p }) (piece_back f.piece)
