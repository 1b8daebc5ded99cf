-- One tick, case by case. Assumes nothing.
--   effect_cases      what holds of a tick without supply, of one that is nobody's turn, and of one in which an instance finishes or goes on
--                     holds of the effect
--   Turned, turned    whose turn a supplied tick is: that of the instance that runs, which goes on, or of the chosen one, which starts, unpolled
--                     ones before all else
--   completes, has_units, finisher   whoever finishes has the turn, and whoever has it can complete
use mathlib.Core.Path.{◌≡◌, refl, ap, ◌∙◌, subst, sym}
use mathlib.Core.Logic.{◌≢◌}
use mathlib.Core.Bool.{Bool, true, false, not, ◌&&◌}
use Prim.Native.Nat.{ℕ, zero, suc, ◌+◌, ◌*◌, ◌≤◌, ◌<◌}
use native.Mathlib.Nat.{zero-add, zero-mul}
use native.Mathlib.Omega.{arith}
use lib.Dec.{eqb}
use borrow.Author.Tests.{ne_eqb}
use Rattle.std.specs.Prelude.{Ok}
use Rattle.masks.specs.Mask.{has}
use Rattle.ranges.specs.Sum.{given, hit}
use Rattle.ranges.proofs.SumLaws.{hit-none}
use Rattle.ranges.proofs.EveryLaws.{never_both}
use Rattle.rules.specs.Parts.{Sound}
use Rattle.numbers.specs.Numbers.{timer, client, places, most_waiting, longest}
use Rattle.table.specs.Values.{kind_of}
use Rattle.priority.specs.Priority.{precedes}
use Rattle.answers.specs.Outcome.{finished_of}
use Rattle.turns.specs.declared.Choice.{Choice}
use Rattle.turns.specs.declared.Turn.{Turn}
use Rattle.turns.specs.Choosing.{is_polled, choice, choose}
use Rattle.turns.specs.Parts.{Cached}
use Rattle.turns.specs.Turns.{turn, starts, turn_of, idles, finishes, continues, step_of}
use Rattle.turns.proofs.ChooseLaws.{Chosen, chooses}
use Rattle.turns.proofs.TurnLaws.{step_cases}
use Rattle.executor.specs.declared.Machine.{Machine}
use Rattle.executor.specs.declared.Ticked.{Ticked}
use Rattle.executor.specs.State.{waiting_of}
use Rattle.executor.specs.Effect.{folded_in, arrive, unsupplied, turn_in, instance_at, ticked, served, effect}
use Rattle.executor.specs.Parts.{Valid, Admissible, Completes}
use Rattle.executor.proofs.ValidLaws.{table_sound}

-- ---- the cases

module _ (P : Ticked → Type 0) (m : Machine) (mask : ℕ) (supplied : Bool) (cost : ℕ) where
  abbrev a : Machine
  a = arrive m mask

  abbrev f : ℕ
  f = folded_in m mask

  abbrev x : Turn
  x = turn_in a cost

  -- the instance of the callback whose turn it is
  abbrev k : ℕ
  k = instance_at a x.chosen

  pub effect_cases : (supplied ≡ false → P (unsupplied a f))
      → (supplied ≡ true → x.chosen ≡ 0 → P (ticked a f x (idles x)))
      → ((i : ℕ) → supplied ≡ true → x.chosen ≡ suc i → x.units ≡ 1 → P (ticked a f x (finishes x i k)))
      → ((i : ℕ) → supplied ≡ true → x.chosen ≡ suc i → x.units ≢ 1 → P (ticked a f x (continues x i k)))
      → P (effect m mask supplied cost)
  unfolding effect served
  effect_cases none idle last more = go supplied refl
    where
      go : (b : Bool) → supplied ≡ b → P (elim b [ true ↦ served a f cost | false ↦ unsupplied a f ])
      go true s = step_cases x k (λ y. P (ticked a f x y)) (idle s) (λ i. last i s) (λ i. more i s)
      go false s = none s

-- ---- whose turn it is

pub record Turned (m : Machine) (cost : ℕ) (x : Turn) : Type 0 where
  pub kept : Cached m.table x.cache m.waiting
  pub waiting : (i : ℕ) → x.chosen ≡ suc i → (i < m.table.count) × (0 < waiting_of m i) × (is_polled m.table i ≡ true → has x.cache i ≡ true)
  pub some : (j : ℕ) → j < m.table.count → 0 < waiting_of m j → x.chosen ≢ 0
  -- where an unpolled callback waits, whoever starts is it or has the higher priority
  pub urgent : (i j : ℕ) → i < m.table.count → 0 < waiting_of m i → is_polled m.table i ≡ false
      → x.started ≡ true → x.chosen ≡ suc j → i ≢ j → precedes m.table j i ≡ true
  pub units : (1 ≤ x.units) × (x.units ≤ longest)
  pub nobody : x.chosen ≡ 0 → (m.running ≡ 0) × (x.started ≡ false)
  -- what runs goes on, or what starts brings the tick's cost
  pub turn : (i j : ℕ) → x.chosen ≡ suc i → hit m.running j + given (x.started && eqb (suc i) (suc j)) 1 ≡ hit (suc i) j
  pub left : (i j : ℕ) → x.chosen ≡ suc i
      → hit m.running j * m.units + given (x.started && eqb (suc i) (suc j)) 1 * cost ≡ hit (suc i) j * x.units

started_hit : (i j : ℕ) → given (eqb (suc i) (suc j)) 1 ≡ hit (suc i) j
unfolding hit
started_hit i j = refl

module _ (m : Machine) (ok : Valid m) (cost : ℕ) (priced : (1 ≤ cost) × (cost ≤ longest)) where
  begins : (x : Choice) → Chosen m.table m.waiting x → m.running ≡ 0 → Turned m cost (starts x cost)
  begins x ch e = record {
    kept = ch.kept;
    waiting = ch.waiting;
    some = ch.some kinds;
    urgent = λ i j l h p s q d. ch.urgent kinds i j l h p q d;
    units = priced;
    nobody = λ z. (e, ap (λ (y : ℕ). not (eqb y 0)) z);
    turn = λ i j q. rw (e, somebody i q, hit-none, zero-add) (started_hit i j);
    left = λ i j q. rw (e, somebody i q, hit-none, zero-mul, zero-add) (ap (λ (y : ℕ). y * cost) (started_hit i j));
  }
    where
      somebody : (i : ℕ) → x.chosen ≡ suc i → eqb x.chosen 0 ≡ false
      somebody i q = ne_eqb x.chosen 0 (λ z. omega arith)

      kinds : (i : ℕ) → i < m.table.count → (timer ≤ kind_of m.table i) × (kind_of m.table i ≤ client)
      kinds i l = (let so = table_sound m.table ok.table in (so.kind_from i l, so.kind_to i l))

  pub turned : Turned m cost (turn_in m cost)
  unfolding turn_of
  turned = go m.running refl
    where
      c : Choice
      c = choose m.table m.cache m.waiting

      go : (r : ℕ) → m.running ≡ r → Turned m cost (elim r [ zero ↦ starts c cost | suc i ↦ turn (choice (suc i) m.cache false 0) m.units false ])
      go zero e = begins c (chooses m.table m.waiting m.cache ok.cached) e
      go (suc i) e = record {
        kept = ok.cached;
        waiting = λ j q. ok.runner j (e ∙ q);
        some = λ j l w z. omega arith;
        urgent = λ u j l h p s q d. absurd (never_both false s refl);
        units = ok.measured i e;
        nobody = λ z. absurd (omega arith);
        turn = λ k j q. rw (e, q) (omega arith);
        left = λ k j q. rw (e, q) (omega arith);
      }

-- whoever has the turn is one of the table's, has units left, and can complete
module _ (m : Machine) (cost : ℕ) (ok : Admissible (most_waiting + 1) m cost) (x : Turn) (e : x ≡ turn_in m cost) where
  w : Turned m cost x
  w = subst (Turned m cost) (sym e) (turned m ok.valid cost ok.priced)

  so : Sound m.table
  so = table_sound m.table ok.valid.table

  pub completes : (i : ℕ) → x.chosen ≡ suc i → Completes m i
  completes i q = record {
    inside = omega (arith, (w.waiting i q).0, so.few);
    waits = (w.waiting i q).1;
    room = ok.room;
    counted = omega (arith, ok.early, ok.valid.early i (omega (arith, (w.waiting i q).0, so.few)));
    linked = omega (arith, so.names i (w.waiting i q).0, so.few);
  }

  pub has_units : (x.chosen ≤ places) × (0 < x.units)
  has_units = (go x.chosen refl, w.units.0)
    where
      go : (y : ℕ) → x.chosen ≡ y → y ≤ places
      go zero q = omega arith
      go (suc i) q = (completes i q).inside

-- and whoever finishes has it
pub finisher : (x : Turn) (k i : ℕ) → finished_of (Ok (step_of x k).answer) ≡ suc i → x.chosen ≡ suc i
finisher x k i =
    step_cases x k (λ s. finished_of (Ok s.answer) ≡ suc i → x.chosen ≡ suc i)
    (λ z e. absurd (omega arith))
    (λ j q u e. q ∙ e)
    (λ j q u e. absurd (omega arith))
