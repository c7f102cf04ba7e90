-- `olr::get::first_bad` meets its contract: no word passed was bad. Assumes nothing.
use Rattle.std.proofs.Common.{◌≡◌, ℕ, ◌+◌, ◌*◌, ◌<◌, false, get_or}
use Rattle.matte.specs.Layout.{eight}
use Rattle.words.specs.Fit.{bad_word}
use Rattle.olr.specs.Read.{file_levels, file_words}
use Rattle.olr.proofs.get.first_bad.Given as goal

abbrev pub invariant-loop-b : goal.invariant-loop-b
invariant-loop-b l = (i : ℕ) → i < 127 * l.b → i < l.n → bad_word eight l.fn.size.width l.fn.size.height (file_levels l.file.bytes.now) (get_or (file_words l.file.bytes.now) i 0) ≡ false

abbrev pub invariant-loop-j : goal.invariant-loop-j
invariant-loop-j l = (i : ℕ) → i < 127 * l.b + l.j → i < l.n → bad_word eight l.fn.size.width l.fn.size.height (file_levels l.file.bytes.now) (get_or (file_words l.file.bytes.now) i 0) ≡ false
