-- The customer's second demand, of the stored outline file. Assumes nothing.
-- Main laws: `written_reads` what writing puts into the room, reading hands back; `read_writes` what reading accepts is, byte for byte, what writing puts there for what it handed back; `files_told` two different inputs have
--   different files. The premises on words and bytes hold of every u32 and u8.
use mathlib.Core.Path.{◌≡◌, refl, sym, ap, ap₂, ◌∙◌}
use mathlib.Core.List.{List, ◌++◌}
use Prim.Native.Nat.{ℕ, ◌-◌, ◌≤◌}
use lib.ListN.{length, take, drop, replicate}
use Rattle.tally.specs.Tally.{tally}
use Rattle.matte.specs.Layout.{eight}
use Rattle.refuse.proofs.Rows.{done_after}
use Rattle.edgel.specs.Word.{flagged}
use Rattle.block.proofs.Bytes.{Below}
use Rattle.olr.specs.File.{file, file_length, write_verdict, write_room}
use Rattle.olr.specs.Read.{file_width, file_height, file_border, file_levels, file_words, read_verdict, read_answer, read_words}
use Rattle.olr.proofs.Round.{round_answer, round_words, written, file_told}
use Rattle.olr.proofs.Back.{back, back_length, back_writes}

module _ (w h v : ℕ) (ks ws room : List ℕ) (below : Below 4294967296 ws) (done : (write_verdict w h v ks ws room).number ≡ 0) where
  -- the bytes that writing put into the room
  abbrev stored : List ℕ
  stored = take (file_length w h v ks ws) (write_room w h v ks ws room)

  -- sides, border value, levels and words come back, for any room that holds the words
  pub written_reads : (out : List ℕ) → length ws ≤ length out → (read_words stored out ≡ ws ++ drop (length ws) out) × (read_answer stored out ≡ record {
    answer = record { number = 0; place = 0; words = length ws; lines = tally (flagged eight) ws };
    width = w;
    height = h;
    border = v;
    count = length ks;
    levels = ks ++ replicate (255 - length ks) 0;
  })
  written_reads out roomy =
      let e : stored ≡ file w h v ks ws = written w h v ks ws room below done in (
        ap (λ (f : List ℕ). read_words f out) e ∙ round_words w h v ks ws room below done out roomy,
        ap (λ (f : List ℕ). read_answer f out) e ∙ round_answer w h v ks ws room below done out roomy,
      )

module _ (f out : List ℕ) (bytes : Below 256 f) (done : (read_verdict f out).number ≡ 0) where
  -- nothing else reads as a file
  pub read_writes : (room : List ℕ) → length f ≤ length room
      → ((write_verdict (file_width f) (file_height f) (file_border f) (file_levels f) (file_words f) room).number ≡ 0)
      × (write_room (file_width f) (file_height f) (file_border f) (file_levels f) (file_words f) room ≡ f ++ drop (length f) room)
  read_writes room roomy =
      let w = file_width f in
      let h = file_height f in
      let v = file_border f in
      let ks = file_levels f in
      let ws = file_words f in
      let d = back_writes f out bytes done room roomy in (
        d,
        done_after (write_verdict w h v ks ws room) room (file w h v ks ws ++ drop (file_length w h v ks ws) room) d
            ∙ ap₂ (λ (l : List ℕ) (n : ℕ). l ++ drop n room) (back f out bytes done) (back_length f out bytes done),
      )

-- accepted inputs and accepted files belong together one to one
pub files_told : (w h v : ℕ) (ks ws room : List ℕ) (w' h' v' : ℕ) (ks' ws' room' : List ℕ) → Below 4294967296 ws → Below 4294967296 ws' → (write_verdict w h v ks ws room).number ≡ 0
    → (write_verdict w' h' v' ks' ws' room').number ≡ 0 → file w h v ks ws ≡ file w' h' v' ks' ws' → (w ≡ w') × (h ≡ h') × (v ≡ v') × (ks ≡ ks') × (ws ≡ ws')
files_told = file_told
