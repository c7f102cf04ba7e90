-- The customer's first demand, of lent memory: a refused call changes none. Assumes nothing.
-- Main laws: `list_kept`, `tree_kept`, `frame_kept`, `paint_kept`, `write_kept`, `read_kept`, `pgm_kept` one for each call that is lent memory to write to, so for the calls for C with the same contracts too. The crossing, the piece,
--   the line part and membership are lent nothing to write to: there is nothing to keep.
-- That a call comes to an end without a fault, whatever it is handed, is the proof of its function, which has no `requires`. That its contract allows some answer for every input needs no law: each contract says that the
--   result and the last contents are the values of definitions, and those have a value for every input. That it allows no second one is OneAnswer; which number is given is RefusedExactly.
use mathlib.Core.Path.{◌≡◌}
use mathlib.Core.List.{List}
use mathlib.Core.Logic.{◌≢◌}
use Prim.Native.Nat.{ℕ}
use Rattle.matte.specs.Layout.{eight}
use Rattle.matte.specs.Picture.{Picture}
use Rattle.refuse.proofs.Rows.{refused_after}
use Rattle.outline.specs.List.{list_verdict, list_work, list_words}
use Rattle.enclosure.specs.Call.{tree_verdict, tree_work, tree_words, tree_entries}
use Rattle.frame.specs.Frame.{frame_verdict, frame_room}
use Rattle.paint.specs.Paint.{paint_verdict, paint_room}
use Rattle.olr.specs.File.{write_verdict, write_room}
use Rattle.olr.specs.Read.{read_verdict, read_words}
use Rattle.pgm.specs.Call.{pgm_verdict, pgm_room}

module _ (P : Picture) (ks work out : List ℕ) where
  pub list_kept : (list_verdict eight P ks work out).number ≢ 0 → (list_work eight P ks work out ≡ work) × (list_words eight P ks work out ≡ out)
  list_kept n = (refused_after (list_verdict eight P ks work out) work _ n, refused_after (list_verdict eight P ks work out) out _ n)

  pub tree_kept : (tree : List ℕ) → (tree_verdict eight P ks work out tree).number ≢ 0
      → (tree_work eight P ks work out tree ≡ work) × (tree_words eight P ks work out tree ≡ out) × (tree_entries eight P ks work out tree ≡ tree)
  tree_kept tree n =
      let v = tree_verdict eight P ks work out tree in
      (refused_after v work _ n, refused_after v out _ n, refused_after v tree _ n)

pub frame_kept : (P : Picture) (room : List ℕ) → (frame_verdict eight P room).number ≢ 0 → frame_room eight P room ≡ room
frame_kept P room n = refused_after (frame_verdict eight P room) room _ n

pub paint_kept : (w h v : ℕ) (ks ws room : List ℕ) → (paint_verdict eight w h v ks ws room).number ≢ 0 → paint_room eight w h v ks ws room ≡ room
paint_kept w h v ks ws room n = refused_after (paint_verdict eight w h v ks ws room) room _ n

pub write_kept : (w h v : ℕ) (ks ws room : List ℕ) → (write_verdict w h v ks ws room).number ≢ 0 → write_room w h v ks ws room ≡ room
write_kept w h v ks ws room n = refused_after (write_verdict w h v ks ws room) room _ n

pub read_kept : (f out : List ℕ) → (read_verdict f out).number ≢ 0 → read_words f out ≡ out
read_kept f out n = refused_after (read_verdict f out) out _ n

pub pgm_kept : (f room : List ℕ) → (pgm_verdict f room).number ≢ 0 → pgm_room f room ≡ room
pgm_kept f room n = refused_after (pgm_verdict f room) room _ n
