-- Samples held as differences: a sample is the sum of all bytes up to it, modulo 256. Assumes nothing.
-- Definitions: `up_to` that sum; `Turned` the samples from a place on go from one state to another; `Ends` a number has no marks from a place on; `Walked` a part of a row gets the states that its marks give;
--   `Layered` all rows do; `Summed` the samples are those of a function. From d to e, each is said of the sums and not of the bytes.
use Rattle.std.specs.Prelude.{◌≡◌, ℕ, suc, ◌+◌, ◌-◌, ◌*◌, ◌/◌, ◌%◌, ◌<◌, ◌≤◌, Bool, false, List, length, slice_index}
use Rattle.tally.specs.Tally.{one, sum}
use Rattle.marks.specs.Marks.{digit}
use Rattle.layer.specs.Layer.{running}

-- the bytes up to i, and i's own
unfoldable pub up_to : List ℕ → ℕ → ℕ
up_to e i = sum (λ t. slice_index e t) (suc i) % 256

-- the samples from p on held `was` of a level, and now hold `on`
pub record Turned (p : ℕ) (was on : Bool) (d e : List ℕ) : Type 0 where
  pub long : length e ≡ length d
  pub low : (i : ℕ) → i < p → up_to e i ≡ up_to d i
  pub far : (i : ℕ) → p ≤ i → (up_to e i + one was) % 256 ≡ (up_to d i + one on) % 256
  pub rest : (i : ℕ) → p < i → slice_index e i ≡ slice_index d i

-- x, whose digits stand at the places from p on, has none from q on
pub record Ends (x p q : ℕ) : Type 0 where
  pub some : p ≤ q
  pub none : (j : ℕ) → q ≤ p + j → digit x j ≡ false

-- the samples from lo on held `was`; up to x each now holds the state that f and the marks from lo to before it give, and from x on all hold x's
pub record Walked (b : ℕ → Bool) (f : Bool) (lo x : ℕ) (was on : Bool) (d e : List ℕ) : Type 0 where
  pub long : length e ≡ length d
  pub state : on ≡ running b f lo (x - lo)
  pub low : (i : ℕ) → i < lo → up_to e i ≡ up_to d i
  pub near : (i : ℕ) → lo ≤ i → i ≤ x → (up_to e i + one was) % 256 ≡ (up_to d i + one (running b f lo (i - lo))) % 256
  pub far : (i : ℕ) → x ≤ i → (up_to e i + one was) % 256 ≡ (up_to d i + one on) % 256
  pub rest : (i : ℕ) → x < i → slice_index e i ≡ slice_index d i

-- the states of a level are added in every row of w samples, up to the place n
pub record Layered (b : ℕ → Bool) (f : Bool) (w n : ℕ) (d e : List ℕ) : Type 0 where
  pub long : length e ≡ length d
  pub done : (i : ℕ) → i < n → up_to e i ≡ (up_to d i + one (running b f (i / w * w) (i % w))) % 256
  pub same : (i : ℕ) → n ≤ i → slice_index e i ≡ slice_index d i

-- the first n samples are those of f
pub record Summed (f : ℕ → ℕ) (n : ℕ) (d e : List ℕ) : Type 0 where
  pub long : length e ≡ length d
  pub done : (i : ℕ) → i < n → up_to e i ≡ f i % 256
  pub same : (i : ℕ) → n ≤ i → slice_index e i ≡ slice_index d i
