-- `marks::ahead_to` meets its contract: the lower digits of the place's number, and of these those that are left. Assumes nothing.
use Rattle.std.proofs.Common.{◌≡◌, ◌∙◌, ℕ, ◌*◌, ◌%◌, ◌^◌, arith, one-mul}
use Rattle.marks.proofs.Digits.{shift_fits}
use Rattle.marks.proofs.Places.{ahead_part}
use Rattle.marks.proofs.ahead_to.Goals as goal

power : (e : ℕ) → 1 * 2 ^ (e % 64) % 2 ^ 64 ≡ 2 ^ (e % 64)
power e = shift_fits 1 (e % 64) (omega arith) (omega arith) ∙ one-mul (2 ^ (e % 64))

pub returns : goal.returns
returns c = ahead_part _ _ _ c.number_at.ensures _ _ c.requires.0 c.requires.1 (power c.args.end)
