-- A history within the curves (document 01, 'Curves'), as counts: a window of d ticks is the difference of two counts.
use Rattle.std.specs.Prelude.{ℕ, ◌+◌, ◌-◌, ◌≤◌, ◌<◌}
use Rattle.busy_window.specs.Counts.{Counts}

-- N ticks within arrivals a and supply s, and the first M of them, those known to be unrefused, within costs e
pub record Within (n N M : ℕ) (c : Counts) (a e : ℕ → ℕ → ℕ) (s : ℕ → ℕ) : Type 0 where
  -- a head activates at most a(d) times in d consecutive ticks
  pub arrive : (i t d : ℕ) → i < n → t + d ≤ N → c.activated i (t + d) ≤ c.activated i t + a i d
  -- any consecutive started instances of a callback, those started in some window, cost at most E of their number
  pub charge : (i t u : ℕ) → i < n → t ≤ u → u ≤ M → c.spent i u ≤ c.spent i t + e i (c.started i u - c.started i t)
  -- each window of d ticks holds at least s(d) supplied ticks
  pub supply : (t d : ℕ) → t + d ≤ N → c.supplied t + s d ≤ c.supplied (t + d)
