-- What one tick does to a state without faults, refusals aside: it keeps the state so, and changes each callback's counts by 0 or 1.
--   Stepped, steps   what the whole tick does; steps_over: over a table that the state is known to hold
-- A callback's events are read from the outcome: hit (finished_of ..), hit (callback_of ..), and whether one started.
use mathlib.Core.Path.{◌≡◌, refl, subst, sym, ap, ◌∙◌}
use mathlib.Core.Logic.{◌≢◌}
use mathlib.Core.Bool.{Bool, true, false, ◌&&◌}
use Prim.Native.Nat.{ℕ, suc, ◌+◌, ◌*◌, ◌-◌, ◌≤◌, ◌<◌}
use native.Mathlib.Nat.{le_refl}
use native.Mathlib.Decide.{ℕ_discrete}
use native.Mathlib.Omega.{arith}
use lib.Dec.{eqb}
use lib.ListN.{get_or}
use Rattle.std.specs.Prelude.{Ok}
use Rattle.masks.specs.Mask.{has, without_bit}
use Rattle.masks.proofs.Slots.{has_without_same, has_without_other}
use Rattle.ranges.specs.Sum.{sum, given, hit}
use Rattle.ranges.proofs.SumLaws.{hit_self, hit_other, hit-none, hit-le, sum-hit}
use Rattle.ranges.proofs.EveryLaws.{never_both}
use Rattle.table.specs.declared.Table.{Table}
use Rattle.numbers.specs.Numbers.{places, longest}
use Rattle.table.specs.Values.{next_of}
use Rattle.table.specs.Links.{next_after, foreign}
use Rattle.priority.specs.Priority.{precedes}
use Rattle.rules.specs.Parts.{Sound}
use Rattle.answers.specs.declared.Answer.{Answer}
use Rattle.answers.specs.Outcome.{callback_of, instance_of, finished_of}
use Rattle.queues.specs.Queues.{counted, completed}
use Rattle.queues.proofs.QueueLaws.{counted-length, counted_at, completed-length, completed_at}
use Rattle.turns.specs.declared.Turn.{Turn}
use Rattle.folding.specs.Folding.{kept}
use Rattle.turns.specs.Choosing.{is_polled}
use Rattle.turns.specs.Turns.{idles, finishes, continues}
use Rattle.executor.specs.declared.Machine.{Machine}
use Rattle.executor.specs.declared.Ticked.{Ticked}
use Rattle.executor.specs.State.{waiting_of, finished_at}
use Rattle.executor.specs.Effect.{folded_in, arrive, unsupplied, turn_in, instance_at, left, ticked, effect}
use Rattle.executor.specs.Tick.{next_activated}
use Rattle.executor.specs.Parts.{Valid}
use Rattle.executor.proofs.ValidLaws.{table_sound, arrive_at, valid_arrived}
use Rattle.executor.proofs.Cases.{effect_cases, Turned, turned}

pub record Stepped (t : Table) (m : Machine) (mask : ℕ) (supplied : Bool) (cost : ℕ) (o : Ticked) : Type 0 where
  pub held : o.machine.table ≡ t
  pub valid : Valid o.machine
  -- what arrives and is kept waits, what finishes leaves, and a completion activates its next
  pub queue : (j : ℕ) → j < places
      → waiting_of o.machine j + hit (finished_of o.outcome) j ≡ waiting_of m j + (given (kept mask o.folded j) 1 + hit (next_activated t o.outcome) j)
  -- what starts runs until it finishes, one at a time
  pub turn : (j : ℕ) → hit o.machine.running j + hit (finished_of o.outcome) j
      ≡ hit m.running j + given (o.started && eqb (callback_of o.outcome) (suc j)) 1
  pub clear : (j : ℕ) → hit o.machine.running j + hit (finished_of o.outcome) j ≤ 1
  -- what starts brings the tick's cost, and the callback named loses a unit
  pub work : (j : ℕ) → hit o.machine.running j * o.machine.units + hit (callback_of o.outcome) j
      ≡ hit m.running j * m.units + given (o.started && eqb (callback_of o.outcome) (suc j)) 1 * cost
  -- a supplied tick does a unit if something waits after its arrivals
  pub conserve : (j : ℕ) → j < t.count → 0 < waiting_of m j + given (kept mask o.folded j) 1 → given supplied 1 ≤ sum t.count (hit (callback_of o.outcome))
  -- completions are counted, and so are ticks
  pub done : (j : ℕ) → j < places → finished_at o.machine j ≡ finished_at m j + hit (finished_of o.outcome) j
  pub clock : o.machine.clock ≡ suc m.clock
  -- whoever is named is one of the table's; it waits, and its instance is the one after those finished
  pub names : (i : ℕ) → callback_of o.outcome ≡ suc i → (i < t.count) × (0 < waiting_of m i + given (kept mask o.folded i) 1) × (instance_of o.outcome ≡ suc (finished_at m i))
  pub whose : (p : ℕ) → finished_of o.outcome ≡ suc p → p < t.count
  -- where an unpolled callback waits after the arrivals, whoever starts is it or has the higher priority
  pub urgent : (i j : ℕ) → i < t.count → 0 < waiting_of m i + given (kept mask o.folded i) 1 → is_polled t i ≡ false
      → o.started ≡ true → callback_of o.outcome ≡ suc j → i ≢ j → precedes t j i ≡ true
  pub answers : (y : Answer) × (o.outcome ≡ Ok y)

module _ (m : Machine) (ok : Valid m) (mask cost : ℕ) (priced : (1 ≤ cost) × (cost ≤ longest)) (heads : foreign m.table mask ≡ 0) where
  abbrev t : Table
  t = m.table

  -- the state after the arrivals
  abbrev a : Machine
  a = arrive m mask

  -- those folded, and who comes
  abbrev f : ℕ
  f = folded_in m mask

  abbrev comes : ℕ → Bool
  comes j = kept mask f j

  good : Valid a
  good = valid_arrived m ok mask heads

  so : Sound t
  so = table_sound t ok.table

  at : (j : ℕ) → j < places → waiting_of a j ≡ waiting_of m j + given (comes j) 1
  at = arrive_at m ok mask

  abbrev x : Turn
  x = turn_in a cost

  w : Turned a cost x
  w = turned a good cost priced

  without : Stepped t m mask false cost (unsupplied a f)
  unfolding unsupplied next_after
  without = record {
    held = refl;
    valid = record { table = ok.table; sized = good.sized; beyond = good.beyond; cached = good.cached; runner = good.runner; measured = ok.measured; rest = ok.rest; early = λ j h. omega (arith, ok.early j h) };
    queue = λ j h. omega (arith, at j h, hit-none j);
    turn = λ j. omega (arith, hit-none j);
    clear = λ j. omega (arith, hit-none j, hit-le m.running j);
    work = λ j. omega (arith, hit-none j);
    conserve = λ j h q. omega arith;
    done = λ j h. omega (arith, hit-none j);
    clock = omega arith;
    names = λ i e. absurd (omega arith);
    whose = λ p e. absurd (omega arith);
    urgent = λ u j h q p s f d. absurd (omega arith);
    answers = (_, refl);
  }

  nobody : x.chosen ≡ 0 → Stepped t m mask true cost (ticked a f x (idles x))
  unfolding left counted next_after
  nobody z = (let n = w.nobody z in record {
    held = refl;
    valid = record { table = ok.table; sized = good.sized; beyond = good.beyond; cached = w.kept; runner = λ i e. absurd (omega arith); measured = λ i e. absurd (omega arith); rest = λ e. refl; early = λ j h. omega (arith, ok.early j h) };
    queue = λ j h. omega (arith, at j h, hit-none j);
    turn = λ j. omega (arith, hit-none j, ap (λ (r : ℕ). hit r j) n.0, ap (λ (b : Bool). given (b && eqb 0 (suc j)) 1) n.1);
    clear = λ j. omega (arith, hit-none j);
    work = λ j. omega (arith, hit-none j, ap (λ (r : ℕ). r * m.units) (ap (λ (r : ℕ). hit r j) n.0 ∙ hit-none j), ap (λ (b : Bool). given (b && eqb 0 (suc j)) 1 * cost) n.1);
    conserve = λ j h q. absurd (w.some j h (omega (arith, at j (omega (arith, so.few)))) z);
    done = λ j h. omega (arith, hit-none j);
    clock = omega arith;
    names = λ i e. absurd (omega arith);
    whose = λ p e. absurd (omega arith);
    urgent = λ u j h q p s f d. absurd (omega arith);
    answers = (_, refl);
  })

  -- slot i has the turn
  module _ (i : ℕ) (e : x.chosen ≡ suc i) where
    l : i < t.count
    l = (w.waiting i e).0

    waits : 0 < waiting_of a i
    waits = (w.waiting i e).1

    instance : instance_at a x.chosen ≡ suc (finished_at m i)
    unfolding instance_at
    instance = ap (instance_at a) e ∙ omega arith

    -- what is said of it
    named : (j : ℕ) → suc i ≡ suc j → (j < t.count) × (0 < waiting_of m j + given (comes j) 1) × (instance_at a x.chosen ≡ suc (finished_at m j))
    named j q =
        subst (λ (y : ℕ). (y < t.count) × (0 < waiting_of m y + given (comes y) 1) × (instance_at a x.chosen ≡ suc (finished_at m y)))
        (omega arith)
        (l, omega (arith, waits, at i (omega (arith, l, so.few))), instance)

    -- who goes after it if it starts
    ahead : (u j : ℕ) → u < t.count → 0 < waiting_of m u + given (comes u) 1 → is_polled t u ≡ false
        → x.started ≡ true → suc i ≡ suc j → u ≢ j → precedes t j u ≡ true
    ahead u j h q p s f d = w.urgent u j h (omega (arith, at u (omega (arith, so.few)))) p s (e ∙ f) d

    last : x.units ≡ 1 → Stepped t m mask true cost (ticked a f x (finishes x i (instance_at a x.chosen)))
    unfolding left next_after
    last u = record {
      held = refl;
      valid = record {
        table = ok.table;
        sized = (completed-length i (next_of t i) a.waiting ∙ good.sized.0, counted-length (suc i) m.finished ∙ ok.sized.1);
        beyond = λ j k h. (
          omega (arith, more j h, hit_other (next_of t i) j (λ q. omega (arith, so.names i l)), (good.beyond j k h).0),
          omega (arith, raised j h, (ok.beyond j k h).1, hit_other (suc i) j (λ q. omega (arith, l))),
        );
        cached = λ j h. (
            let b = w.kept j (still j h).1 in
            (b.0, omega (arith, b.1, more j (omega (arith, b.0, so.few)), hit_other (suc i) j (λ q. (still j h).0 (omega arith))), b.2)
            );
        runner = λ j q. absurd (omega arith);
        measured = λ j q. absurd (omega arith);
        rest = λ q. refl;
        early = λ j h. omega (arith, raised j h, ok.early j h, hit-le (suc i) j);
      };
      queue = λ j h. omega (arith, more j h, at j h);
      turn = λ j. omega (arith, hit-none j, w.turn i j e);
      clear = λ j. omega (arith, hit-none j, hit-le (suc i) j);
      work = λ j. rw hit-none (omega (arith, w.left i j e, ap (λ (y : ℕ). hit (suc i) j * y) u));
      conserve = λ j h q. rw (sum-hit t.count i l) (le_refl 1);
      done = raised;
      clock = omega arith;
      names = named;
      whose = λ p q. omega (arith, l);
      urgent = ahead;
      answers = (_, refl);
    }
      where
        more : (j : ℕ) → j < places → get_or (completed i (next_of t i) a.waiting) j 0 + hit (suc i) j ≡ waiting_of a j + hit (next_of t i) j
        more j h = completed_at i (next_of t i) a.waiting j (omega (arith, good.sized.0)) waits

        raised : (j : ℕ) → j < places → get_or (counted (suc i) m.finished) j 0 ≡ finished_at m j + hit (suc i) j
        raised j h = counted_at (suc i) m.finished j (omega (arith, ok.sized.1))

        still : (j : ℕ) → has (without_bit x.cache i) j ≡ true → (j ≢ i) × (has x.cache j ≡ true)
        still j h = go (ℕ_discrete j i)
          where
            go : Dec (j ≡ i) → (j ≢ i) × (has x.cache j ≡ true)
            go (yes q) = absurd (never_both (has (without_bit x.cache i) j) h (ap (has (without_bit x.cache i)) q ∙ has_without_same x.cache i))
            go (no q) = (q, sym (has_without_other x.cache i j q) ∙ h)

    more : x.units ≢ 1 → Stepped t m mask true cost (ticked a f x (continues x i (instance_at a x.chosen)))
    unfolding left counted next_after
    more u = record {
      held = refl;
      valid = record {
        table = ok.table;
        sized = good.sized;
        beyond = good.beyond;
        cached = w.kept;
        runner = λ j q. w.waiting j (e ∙ q);
        measured = λ j q. (omega (arith, w.units.0), omega (arith, w.units.1));
        rest = λ q. absurd (omega arith);
        early = λ j h. omega (arith, ok.early j h);
      };
      queue = λ j h. omega (arith, at j h, hit-none j);
      turn = λ j. omega (arith, hit-none j, w.turn i j e);
      clear = λ j. omega (arith, hit-none j, hit-le (suc i) j);
      work = λ j. unit j (ℕ_discrete j i) ∙ sym (w.left i j e);
      conserve = λ j h q. rw (sum-hit t.count i l) (le_refl 1);
      done = λ j h. omega (arith, hit-none j);
      clock = omega arith;
      names = named;
      whose = λ p q. absurd (omega arith);
      urgent = ahead;
      answers = (_, refl);
    }
      where
        unit : (j : ℕ) → Dec (j ≡ i) → hit (suc i) j * (x.units - 1) + hit (suc i) j ≡ hit (suc i) j * x.units
        unit j (yes q) = rw (q, hit_self) (omega (arith, w.units.0))
        unit j (no q) = rw (hit_other (suc i) j (λ f. q (omega arith))) (omega arith)

  pub steps : (supplied : Bool) → Stepped t m mask supplied cost (effect m mask supplied cost)
  steps supplied =
      effect_cases (Stepped t m mask supplied cost) m mask supplied cost
      (λ s. subst (λ (b : Bool). Stepped t m mask b cost (unsupplied a f)) (sym s) without)
      (λ s z. subst (λ (b : Bool). Stepped t m mask b cost (ticked a f x (idles x))) (sym s) (nobody z))
      (λ i s e u. subst (λ (b : Bool). Stepped t m mask b cost (ticked a f x (finishes x i (instance_at a x.chosen)))) (sym s) (last i e u))
      (λ i s e u. subst (λ (b : Bool). Stepped t m mask b cost (ticked a f x (continues x i (instance_at a x.chosen)))) (sym s) (more i e u))

-- the same over a table that the state is known to hold
pub steps_over : (t : Table) (m : Machine) → m.table ≡ t → Valid m → (mask cost : ℕ) → (1 ≤ cost) × (cost ≤ longest) → foreign t mask ≡ 0
    → (supplied : Bool) → Stepped t m mask supplied cost (effect m mask supplied cost)
steps_over t m e ok mask cost priced heads supplied =
    subst (λ (y : Table). Stepped y m mask supplied cost (effect m mask supplied cost)) e
    (steps m ok mask cost priced (ap (λ (y : Table). foreign y mask) e ∙ heads) supplied)
