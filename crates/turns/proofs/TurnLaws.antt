-- Whose turn a supplied tick is, and what step 4 leaves of it. Assumes nothing.
--   turn_running, turn_free                     step 3 by what runs
--   step_nobody, step_last, step_more           step 4 by the index of a callback rather than its slot
--   step_cases                                  what holds where it is nobody's turn, where an instance finishes and where it goes on holds of step 4
use mathlib.Core.Path.{◌≡◌, refl, sym, ap, ap₂, ◌∙◌}
use mathlib.Core.Logic.{◌≢◌}
use mathlib.Core.Bool.{Bool, true, false}
use mathlib.Core.List.{List}
use Prim.Native.Nat.{ℕ, zero, suc, ◌-◌, ◌≤◌}
use native.Mathlib.Omega.{arith}
use lib.Dec.{eqb}
use borrow.Author.Tests.{eq-eqb, ne_eqb, eqb-true, eqb-false}
use Rattle.masks.specs.Mask.{without_bit}
use Rattle.numbers.specs.Numbers.{places}
use Rattle.table.specs.declared.Table.{Table}
use Rattle.answers.specs.declared.Answer.TheVariants.{Ran, Finished}
use Rattle.priority.specs.declared.Kinds as masked
use Rattle.priority.specs.Parts.{kinds_of}
use Rattle.turns.specs.declared.Choice.{Choice}
use Rattle.turns.specs.declared.Step.{Step}
use Rattle.turns.specs.declared.Turn.{Turn}
use Rattle.turns.specs.declared.Waits as split
use Rattle.turns.specs.Choosing.{choice, choose}
use Rattle.turns.specs.Parts.{waits_of, choose_in}
use Rattle.turns.specs.Turns.{turn, starts, turn_of, step, idles, finishes, continues, step_of}
use Rattle.turns.proofs.ChooseLaws.{choose_law}

module _ (t : Table) (ws : List ℕ) (c running units cost : ℕ) where
  -- a turn by what runs
  abbrev by : ℕ → Turn
  by r = elim r [ zero ↦ starts (choose t c ws) cost | suc i ↦ turn (choice (suc i) c false 0) units false ]

  pub turn_running : running ≢ 0 → turn (choice running c false 0) units false ≡ turn_of t ws c running units cost
  unfolding turn_of
  turn_running h = go running h
    where
      go : (r : ℕ) → r ≢ 0 → turn (choice r c false 0) units false ≡ by r
      go zero n = absurd (n refl)
      go (suc i) n = refl

  pub turn_free : running ≡ 0 → t.count ≤ places → (k : masked.Kinds) (w : split.Waits) (x : Choice)
      → k ≡ kinds_of t → w ≡ waits_of t ws t.count → x ≡ choose_in k c w → starts x cost ≡ turn_of t ws c running units cost
  unfolding turn_of
  turn_free z le k w x e f g =
      ap (λ (y : Choice). starts y cost) (g ∙ ap₂ (λ (y : masked.Kinds) (v : split.Waits). choose_in y c v) e f ∙ choose_law t ws le c)
      ∙ ap by (sym z)

module _ (x : Turn) (k : ℕ) where
  -- a unit by whether it is the last, and a turn by its callback
  abbrev unit : ℕ → Bool → Step
  unit i b = elim b [ true ↦ finishes x i k | false ↦ continues x i k ]

  abbrev of : ℕ → Step
  of y = elim y [ zero ↦ idles x | suc i ↦ unit i (eqb x.units 1) ]

  pub step_nobody : x.chosen ≡ 0 → idles x ≡ step_of x k
  unfolding step_of
  step_nobody z = ap of (sym z)

  pub step_last : x.chosen ≢ 0 → x.units ≡ 1 → (c : ℕ) → c ≡ without_bit x.cache (x.chosen - 1)
      → step c 0 0 (Finished x.chosen k) ≡ step_of x k
  unfolding step_of
  step_last h e c f = ap (λ (y : ℕ). step y 0 0 (Finished x.chosen k)) f ∙ go x.chosen h
    where
      go : (y : ℕ) → y ≢ 0 → step (without_bit x.cache (y - 1)) 0 0 (Finished y k) ≡ of y
      go zero n = absurd (n refl)
      go (suc i) n = ap (λ (j : ℕ). step (without_bit x.cache j) 0 0 (Finished (suc i) k)) (omega arith) ∙ ap (unit i) (sym (eq-eqb x.units 1 e))

  pub step_more : x.chosen ≢ 0 → x.units ≢ 1 → step x.cache x.chosen (x.units - 1) (Ran x.chosen k) ≡ step_of x k
  unfolding step_of
  step_more h e = go x.chosen h
    where
      go : (y : ℕ) → y ≢ 0 → step x.cache y (x.units - 1) (Ran y k) ≡ of y
      go zero n = absurd (n refl)
      go (suc i) n = ap (unit i) (sym (ne_eqb x.units 1 e))

  pub step_cases : (P : Step → Type 0) → (x.chosen ≡ 0 → P (idles x))
      → ((i : ℕ) → x.chosen ≡ suc i → x.units ≡ 1 → P (finishes x i k))
      → ((i : ℕ) → x.chosen ≡ suc i → x.units ≢ 1 → P (continues x i k))
      → P (step_of x k)
  unfolding step_of
  step_cases P none last more = go x.chosen refl
    where
      one : (i : ℕ) → x.chosen ≡ suc i → (b : Bool) → eqb x.units 1 ≡ b → P (unit i b)
      one i e true q = last i e (eqb-true x.units 1 q)
      one i e false q = more i e (eqb-false x.units 1 q)

      go : (y : ℕ) → x.chosen ≡ y → P (of y)
      go zero e = none e
      go (suc i) e = one i e (eqb x.units 1) refl
