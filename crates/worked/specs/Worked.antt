-- Document 01, 'Reckoned by hand': the cases marked P as one table, a row each, and the one claim over it.
-- A row has the numbers that the definitions give for a case and the numbers that the paper states, in the paper's order.
use Rattle.std.specs.Prelude.{◌≡◌, Bool, true, false, ℕ, eqb}
use mathlib.Core.List.{List, [], ◌∷◌, ◌++◌, map, Memᴰ}
use Rattle.curves.specs.Arrivals.{arrivals}
use Rattle.curves.specs.Cost.{cost}
use Rattle.curves.specs.Supply.{delayed_supply}
use Rattle.table.specs.declared.Callback.{Callback}
use Rattle.table.specs.declared.Table.{Table}
use Rattle.worked.specs.Sheets.{of_supply, full_supply, callback, timer, sheet, bounds, arrivals_in_window}
use Rattle.worked.specs.Ticks.{run}

-- a case of the paper, P1 having the number 1
pub record Case : Type 0 where
  pub number : ℕ
  pub reckoned : List ℕ
  pub paper : List ℕ

abbrev pub p : ℕ → List ℕ → List ℕ → Case
p k gives says = record { number = k; reckoned = gives; paper = says }

-- P10's callback
abbrev pub lone : Callback
lone = callback 10 0 10 (2 ∷ [])

-- P10's seven ticks, six numbers each (Ticks): 2, 3 and 1 have two ticks each, and 1 waits for the second of the three polling points
abbrev pub ticks0to6 : List ℕ
ticks0to6 =
    (3 ∷ 2 ∷ 1 ∷ 1 ∷ 1 ∷ 2 ∷ [])
    ++ (4 ∷ 2 ∷ 1 ∷ 0 ∷ 0 ∷ 0 ∷ [])
    ++ (3 ∷ 3 ∷ 1 ∷ 1 ∷ 0 ∷ 0 ∷ [])
    ++ (4 ∷ 3 ∷ 1 ∷ 0 ∷ 0 ∷ 0 ∷ [])
    ++ (3 ∷ 1 ∷ 1 ∷ 1 ∷ 1 ∷ 1 ∷ [])
    ++ (4 ∷ 1 ∷ 1 ∷ 0 ∷ 0 ∷ 0 ∷ [])
    ++ (2 ∷ 0 ∷ 0 ∷ 0 ∷ 1 ∷ 0 ∷ [])

unfoldable pub table : List Case
table =
    -- a supply of 2 ticks in 5, without delay
    p 1 (map (delayed_supply 2 5 0) (6 ∷ 7 ∷ 8 ∷ 11 ∷ 12 ∷ 17 ∷ 18 ∷ [])) (0 ∷ 1 ∷ 2 ∷ 2 ∷ 3 ∷ 5 ∷ 6 ∷ [])
    -- a of arrivals whose jitter is longer than their period
    ∷ p 2 (map (arrivals 10 15 2) (0 ∷ 1 ∷ 2 ∷ 3 ∷ 5 ∷ 6 ∷ 12 ∷ [])) (0 ∷ 1 ∷ 1 ∷ 2 ∷ 2 ∷ 3 ∷ 3 ∷ [])
    -- E of a run longer than the entries
    ∷ p 3 (map (cost (4 ∷ 6 ∷ [])) (3 ∷ [])) (10 ∷ [])
    -- a lone callback with the arrivals of P2: the window, no refusal, the bound
    ∷ p 4 (let t : Table = full_supply (callback 10 15 2 (4 ∷ []) ∷ []) in sheet t ++ bounds t) (12 ∷ 0 ∷ 0 ∷ 7 ∷ [])
    -- a second entry, less than twice the first
    ∷ p 5 (let t : Table = full_supply (callback 10 15 2 (4 ∷ 6 ∷ []) ∷ []) in sheet t ++ bounds t) (10 ∷ 0 ∷ 0 ∷ 5 ∷ [])
    -- a timer and a subscription: the window, no refusal, both bounds, the timer's being the second one of document 02's U5; so in P7
    ∷ p 6 (let t : Table = full_supply (timer 10 0 10 (2 ∷ []) ∷ callback 20 0 20 (3 ∷ []) ∷ []) in sheet t ++ bounds t) (5 ∷ 0 ∷ 0 ∷ 4 ∷ 5 ∷ [])
    -- both five times as rare, with the supply of P1
    ∷ p 7 (let t : Table = of_supply 2 5 (timer 50 0 50 (2 ∷ []) ∷ callback 100 0 100 (3 ∷ []) ∷ []) in sheet t ++ bounds t) (17 ∷ 0 ∷ 0 ∷ 13 ∷ 17 ∷ [])
    -- a callback that takes all ticks: the window; with half of the ticks there is none, refusal 15
    ∷ p 8 (sheet (full_supply (callback 2 0 2 (2 ∷ []) ∷ []))) (2 ∷ 0 ∷ 0 ∷ [])
    ∷ p 8 (sheet (of_supply 1 2 (callback 2 0 2 (2 ∷ []) ∷ []))) (0 ∷ 15 ∷ 0 ∷ [])
    -- a jitter of 252 periods: the window, no refusal, and as many arrivals in it as may wait; of 253: refusal 16 at the callback
    ∷ p 9 (let t : Table = full_supply (callback 200 50400 1 (2 ∷ []) ∷ []) in sheet t ++ arrivals_in_window t) (510 ∷ 0 ∷ 0 ∷ 255 ∷ [])
    ∷ p 9 (sheet (full_supply (callback 200 50600 1 (2 ∷ []) ∷ []))) (0 ∷ 16 ∷ 1 ∷ [])
    -- three alike: the second and the third activated in the first tick, the first in the tick after
    ∷ p 10 (run (full_supply (lone ∷ lone ∷ lone ∷ [])) 2 (6 ∷ 1 ∷ 0 ∷ 0 ∷ 0 ∷ 0 ∷ 0 ∷ [])) ticks0to6
    ∷ []

-- two rows of numbers agree
unfoldable pub same : List ℕ → List ℕ → Bool
same [] [] = true
same [] (y ∷ ys) = false
same (x ∷ xs) [] = false
same (x ∷ xs) (y ∷ ys) = elim (eqb x y) [ true ↦ same xs ys | false ↦ false ]

-- the test of a whole table
unfoldable pub agree : List Case → Bool
agree [] = true
agree (c ∷ cs) = elim (same c.reckoned c.paper) [ true ↦ agree cs | false ↦ false ]

-- what is claimed: each case of the table gives the paper's numbers
abbrev pub Reckoned : Type 0
Reckoned = (c : Case) → Memᴰ c table → c.reckoned ≡ c.paper
