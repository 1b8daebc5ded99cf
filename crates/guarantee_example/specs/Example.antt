-- A table and a history within its curves for each edition, one behind a delay, and one that holds timers up, as data: the claim is empty for none of
-- them (proofs/Example).
-- Edition 1: supply of 4 ticks in 5; a timer (T 14, J 8, d 6, entry 2), a subscription (T 17, J 12, d 8, entries 2, 3) and a service that it activates (entry 1).
-- The window is 13, the bounds are 5, 11 and 11. The service finishes for the first time at 13, its head's activation being at 2: just the bound.
-- Edition 2: the same supply; a timer (T 12, J 14, d 3, entry 2) and two subscriptions (T 29, J 5, d 7, entry 1; T 25, J 9, d 11, entries 1, 2).
-- The window is 9, the bounds are 6, 9 and 9. The timer's second activation, at 3, finds both subscriptions in the cache; it waits until they have run and
-- a polling point takes it at 7, and finishes at 9: just the bound. In edition 1 it would have run at 4. It beats in each tick from 0 to 7; all beats but those
-- at 0 and 3 find an instance that waits unstarted, that at 7 in the very tick in which it starts, and are folded. The curve would not bear them.
-- Behind a delay of 3: the same supply, so 3 + 2 × (5 - 4) = 5 ticks without any at worst; a timer (T 30, d 30, entry 2) and a subscription that it activates
-- (entry 1). The window is 8, the bounds are 7 and 8. These 5 ticks begin with the timer's activation at 2, with the supply untouched before; the subscription
-- finishes at 10: just the bound. Without the delay the history would not be within the curves, the window would be 5, the bounds 4 and 5.
-- Held up: the same supply, without delay; two timers (T 12, d 12, entry 1; T 15, d 15, entry 2) and a subscription (T 30, d 30, entry 4). The window is 10,
-- the bounds are 6, 9 and 10: B is 3 for both timers, what is left of the subscription when it has just started. It starts at 0; both timers are activated at
-- 1, when the supply fails for two ticks, and wait until it has finished. The first finishes at 7, the second at 10: each just at its bound. Over all callbacks
-- both had 10, which no history of the first can meet. Until they start both beat in each tick; these beats are folded.
use Rattle.std.specs.Prelude.{true, false, List, [], ◌∷◌, ◌++◌, ℕ, replicate, Ok}
use Rattle.answers.specs.declared.Answer.TheVariants.{NoSupply, Idle, Ran, Finished}
use Rattle.guarantee.specs.History.{Tick, Result}

pub record Case : Type 0 where
  -- a table, ticks, what the machine says to them, and the row that the analyser writes over sixteen zeros
  pub bytes : List ℕ
  pub ticks : List Tick
  pub says : List Result
  pub row : List ℕ
  -- the slot whose bound is met, by which of its completions, and the time of that activation of its chain's head
  pub slot : ℕ
  pub nth : ℕ
  pub activated : ℕ

-- a record of 32 bytes with two entries at most, all numbers below 256
abbrev callback : ℕ → ℕ → ℕ → ℕ → ℕ → ℕ → ℕ → ℕ → List ℕ
callback kind next m T J d e₁ e₂ =
    kind ∷ next ∷ m ∷ 0 ∷ T ∷ 0 ∷ J ∷ 0 ∷ d ∷ 0 ∷ 0 ∷ 0 ∷ e₁ ∷ 0 ∷ e₂ ∷ 0 ∷ replicate 16 0

-- edition, callbacks and Z, with Q 4, P 5 and H 60
abbrev header : ℕ → ℕ → ℕ → List ℕ
header edition n Z = edition ∷ n ∷ 4 ∷ 0 ∷ 5 ∷ 0 ∷ 60 ∷ 0 ∷ Z ∷ 0 ∷ replicate 6 0

-- a supplied tick with its mask and cost, and one without supply
abbrev on : ℕ → ℕ → Tick
on mask cost = record { mask = mask; supplied = true; cost = cost }

abbrev off : ℕ → Tick
off mask = record { mask = mask; supplied = false; cost = 1 }

-- what ticks say: no supply; idle, at a polling point that takes none; goes on; finishes; and the first two of an instance that starts,
-- chosen at a polling point that takes g, or at none (a timer of edition 1, or from the cache)
abbrev none : Result
none = record { outcome = Ok NoSupply; started = false; polled = false; gathered = 0; folded = 0 }

abbrev idle : Result
idle = record { outcome = Ok Idle; started = false; polled = true; gathered = 0; folded = 0 }

abbrev goes_on : ℕ → ℕ → Result
goes_on i k = record { outcome = Ok (Ran i k); started = false; polled = false; gathered = 0; folded = 0 }

abbrev ends : ℕ → ℕ → Result
ends i k = record { outcome = Ok (Finished i k); started = false; polled = false; gathered = 0; folded = 0 }

abbrev starts : ℕ → ℕ → Result
starts i k = record { outcome = Ok (Ran i k); started = true; polled = false; gathered = 0; folded = 0 }

abbrev starts-ends : ℕ → ℕ → Result
starts-ends i k = record { outcome = Ok (Finished i k); started = true; polled = false; gathered = 0; folded = 0 }

abbrev polls_starts : ℕ → ℕ → ℕ → Result
polls_starts i k g = record { outcome = Ok (Ran i k); started = true; polled = true; gathered = g; folded = 0 }

abbrev polls_ends : ℕ → ℕ → ℕ → Result
polls_ends i k g = record { outcome = Ok (Finished i k); started = true; polled = true; gathered = g; folded = 0 }

-- the same with beats that were folded
abbrev folds : ℕ → Result → Result
folds mask r = record { outcome = r.outcome; started = r.started; polled = r.polled; gathered = r.gathered; folded = mask }

-- the timer is activated at 2, 8 and 22, the subscription at 2, 10 and 24
unfoldable pub one : Case
one = record {
  bytes = header 1 3 0 ++ (callback 1 0 1 14 8 6 2 0 ++ (callback 2 3 2 17 12 8 2 3 ++ callback 3 0 1 0 0 0 1 0));
  ticks =
      on 0 1 ∷ on 0 1 ∷ off 3 ∷ off 0 ∷ on 0 2 ∷ on 0 1 ∷ on 0 2 ∷ on 0 1 ∷ off 1 ∷ on 0 2
      ∷ on 2 1 ∷ on 0 1 ∷ on 0 1 ∷ off 0 ∷ on 0 1 ∷ on 0 1 ∷ on 0 1 ∷ on 0 1 ∷ off 0 ∷ on 0 1
      ∷ on 0 1 ∷ on 0 1 ∷ on 1 2 ∷ off 0 ∷ on 2 1 ∷ on 0 2 ∷ on 0 1 ∷ on 0 1 ∷ off 0 ∷ on 0 1
      ∷ [];
  says =
      idle ∷ idle ∷ none ∷ none ∷ starts 1 1 ∷ ends 1 1 ∷ polls_starts 2 1 1 ∷ ends 2 1 ∷ none ∷ starts 1 2
      ∷ ends 1 2 ∷ polls_ends 2 2 2 ∷ starts-ends 3 1 ∷ none ∷ polls_ends 3 2 1 ∷ idle ∷ idle ∷ idle ∷ none ∷ idle
      ∷ idle ∷ idle ∷ starts 1 3 ∷ none ∷ ends 1 3 ∷ polls_starts 2 3 1 ∷ ends 2 3 ∷ polls_ends 3 3 1 ∷ none ∷ idle
      ∷ [];
  row = 5 ∷ 11 ∷ 11 ∷ replicate 13 0;
  slot = 2;
  nth = 1;
  activated = 2;
}

-- the timer beats in each tick up to 7, and is activated at 0, 3 and 10; the subscriptions at 0 and 1; the first polling point takes all three
unfoldable pub two : Case
two = record {
  bytes = header 2 3 0 ++ (callback 1 0 1 12 14 3 2 0 ++ (callback 2 0 1 29 5 7 1 0 ++ callback 2 0 2 25 9 11 1 2));
  ticks =
      off 3 ∷ off 5 ∷ on 1 2 ∷ on 1 1 ∷ on 1 1 ∷ on 1 1 ∷ off 1 ∷ on 1 2 ∷ on 0 1 ∷ on 0 1
      ∷ on 1 2 ∷ off 0 ∷ on 0 1 ∷ on 0 1
      ∷ [];
  says =
      none ∷ folds 1 none ∷ folds 1 (polls_starts 1 1 3) ∷ ends 1 1 ∷ folds 1 (starts-ends 2 1) ∷ folds 1 (starts-ends 3 1) ∷ folds 1 none ∷ folds 1 (polls_starts 1 2 1)
      ∷ ends 1 2 ∷ idle
      ∷ polls_starts 1 3 1 ∷ none ∷ ends 1 3 ∷ idle
      ∷ [];
  row = 6 ∷ 9 ∷ 9 ∷ replicate 13 0;
  slot = 0;
  nth = 2;
  activated = 3;
}

-- the timer is activated at 2, in the first of five ticks without supply
unfoldable pub delayed : Case
delayed = record {
  bytes = header 1 2 3 ++ (callback 1 2 1 30 0 30 2 0 ++ callback 2 0 1 0 0 0 1 0);
  ticks = on 0 1 ∷ on 0 1 ∷ off 1 ∷ off 0 ∷ off 0 ∷ off 0 ∷ off 0 ∷ on 0 2 ∷ on 0 1 ∷ on 0 1 ∷ on 0 1 ∷ on 0 1 ∷ [];
  says = idle ∷ idle ∷ none ∷ none ∷ none ∷ none ∷ none ∷ starts 1 1 ∷ ends 1 1 ∷ polls_ends 2 1 1 ∷ idle ∷ idle ∷ [];
  row = 7 ∷ 8 ∷ replicate 14 0;
  slot = 1;
  nth = 1;
  activated = 2;
}

-- the subscription is activated at 0, both timers at 1, in the first of two ticks without supply, and from there on beat in each tick until they start;
-- the second timer's bound is met, and so is the first's
unfoldable pub held_up : Case
held_up = record {
  bytes = header 1 3 0 ++ (callback 1 0 1 12 0 12 1 0 ++ (callback 1 0 1 15 0 15 2 0 ++ callback 2 0 1 30 0 30 4 0));
  ticks = on 4 4 ∷ off 3 ∷ off 3 ∷ on 3 1 ∷ on 3 1 ∷ on 3 1 ∷ on 3 1 ∷ off 2 ∷ on 2 2 ∷ on 0 1 ∷ on 0 1 ∷ on 0 1 ∷ [];
  says =
      polls_starts 3 1 1 ∷ none ∷ folds 3 none ∷ folds 3 (goes_on 3 1) ∷ folds 3 (goes_on 3 1) ∷ folds 3 (ends 3 1) ∷ folds 3 (starts-ends 1 1) ∷ folds 2 none
      ∷ folds 2 (starts 2 1) ∷ ends 2 1 ∷ idle ∷ idle
      ∷ [];
  row = 6 ∷ 9 ∷ 10 ∷ replicate 13 0;
  slot = 1;
  nth = 1;
  activated = 1;
}
