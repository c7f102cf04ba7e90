-- What the listing program prints for an input. Assumes nothing.
-- Definitions: `blank` lent memory of a length; `call_verdict` the tree call's refusal with the program's room; `answered` what is printed for a picture and levels; `asked_of`, `levels_of` the picture and
--   the levels of input of the form; `printed` what is printed for an input; `Rooms` the memory that is lent.
use Rattle.std.specs.Prelude.{◌≡◌, cond, List, ℕ, ◌≤◌, eqb, length, take, drop, replicate}
use Rattle.refuse.specs.Refusal.{Verdict}
use Rattle.matte.specs.Layout.{eight}
use Rattle.matte.specs.Picture.{Picture, picture}
use Rattle.outline.specs.List.{listed}
use Rattle.enclosure.specs.Tree.{entries}
use Rattle.enclosure.specs.Call.{tree_verdict}
use Rattle.form.specs.Text.{FormRead}
use Rattle.form.specs.Reader.{form_of}
use Rattle.text.specs.Listing.{listing_text, refused_text, not_form_text}

-- n places; only their number matters
unfoldable pub blank : ℕ → List ℕ
blank n = replicate n 0

-- room for 16,384 samples and words and 8,192 tree entries (01, The listing program)
unfoldable pub call_verdict : Picture → List ℕ → Verdict
call_verdict P ks = tree_verdict eight P ks (blank 16384) (blank 16384) (blank 8192)

-- refused, the number; else the list and the tree (01, The listing program)
unfoldable pub answered : Picture → List ℕ → List ℕ
answered P ks =
    cond (eqb (call_verdict P ks).number 0)
    (listing_text eight P ks (listed eight P ks) (entries eight P ks))
    (refused_text (call_verdict P ks).number)

-- the sides that the input says, and the samples that stand at its end (01, The listing program)
abbrev pub asked_of : FormRead → List ℕ → Picture
asked_of f s = picture f.width f.height (drop f.at s)

abbrev pub levels_of : FormRead → List ℕ
levels_of f = take f.count f.levels

-- input that is not of the form is refused before anything else (01, The listing program)
unfoldable pub printed : List ℕ → List ℕ
printed s = cond (form_of s).ok (answered (asked_of (form_of s) s) (levels_of (form_of s))) not_form_text

-- the memory that is lent: work bytes, words, tree entries, and the text
pub record Rooms (work words places out : List ℕ) : Type 0 where
  pub for_work : length work ≡ 16384
  pub for_words : length words ≡ 16384
  pub for_places : length places ≡ 8192
  pub for_text : 1048616 ≤ length out
