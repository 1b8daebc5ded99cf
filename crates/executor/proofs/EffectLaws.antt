-- Steps 1 to 4 as the functions of a tick take them. Assumes nothing.
--   instance_none, instance_some              the instance that is to run, by the index of its callback
--   completed-none, completed-some            the counts of a completion, likewise
--   after_law, served_law                     what a tick gives after step 4
--   effect_supplied, effect-unsupplied        the whole tick
use mathlib.Core.Path.{◌≡◌, refl, sym, ap, ap₂, ◌∙◌}
use mathlib.Core.Logic.{◌≢◌}
use mathlib.Core.Bool.{Bool, true, false}
use mathlib.Core.List.{List}
use Prim.Native.Nat.{ℕ, zero, suc, ◌+◌, ◌-◌}
use native.Mathlib.Omega.{arith}
use lib.ListN.{set}
use Rattle.std.specs.Prelude.{Ok}
use Rattle.table.specs.Links.{next_after}
use Rattle.answers.specs.Outcome.{finished_of}
use Rattle.turns.specs.declared.Step.{Step}
use Rattle.turns.specs.declared.Turn.{Turn}
use Rattle.queues.specs.Queues.{counted, completed}
use Rattle.turns.specs.Turns.{step_of}
use Rattle.executor.specs.declared.Machine.{Machine}
use Rattle.executor.specs.State.{with_counts, finished_at}
use Rattle.executor.specs.Effect.{folded_in, arrive, unsupplied, turn_in, instance_at, left, ticked, served, effect}
use Rattle.executor.specs.Parts.{completed_by}

module _ (m : Machine) where
  pub instance_none : (x : ℕ) → x ≡ 0 → 0 ≡ instance_at m x
  unfolding instance_at
  instance_none x e = ap (instance_at m) (sym e)

  pub instance_some : (x : ℕ) → x ≢ 0 → finished_at m (x - 1) + 1 ≡ instance_at m x
  unfolding instance_at
  instance_some zero h = absurd (h refl)
  instance_some (suc i) h = ap (λ (j : ℕ). finished_at m j + 1) (omega arith)

  pub completed-none : (x : ℕ) → x ≡ 0 → m ≡ completed_by m x
  unfolding completed_by left counted
  completed-none x e = ap (completed_by m) (sym e)

  pub completed-some : (x next k : ℕ) (ws : List ℕ) → x ≢ 0 → next ≡ next_after m.table x → k ≡ instance_at m x → ws ≡ completed (x - 1) next m.waiting
      → with_counts m ws (set m.finished (x - 1) k) ≡ completed_by m x
  unfolding completed_by left counted next_after instance_at
  completed-some zero next k ws h e g f = absurd (h refl)
  completed-some (suc i) next k ws h e g f = rw (f, e, g, slot)
    where
      slot : suc i - 1 ≡ i
      slot = omega arith

  pub after_law : (folded : ℕ) (x : Turn) (s : Step) (f : ℕ) (a : Machine) → f ≡ finished_of (Ok s.answer) → a ≡ completed_by m f
      → record {
        machine = record { table = a.table; waiting = a.waiting; finished = a.finished; cache = s.cache; running = s.running; units = s.units; clock = m.clock + 1 };
        outcome = Ok s.answer;
        started = x.started;
        polled = x.polled;
        gathered = x.gathered;
        folded = folded;
      }
      ≡ ticked m folded x s
  unfolding completed_by
  after_law folded x s f a e g = rw (g, e)

pub served_law : (m : Machine) (folded cost : ℕ) (x : Turn) (k : ℕ) (s : Step) → x ≡ turn_in m cost → k ≡ instance_at m x.chosen → s ≡ step_of x k
    → ticked m folded x s ≡ served m folded cost
unfolding served
served_law m folded cost x k s e f g =
    ap (ticked m folded x) (g ∙ ap (step_of x) f) ∙ ap (λ (y : Turn). ticked m folded y (step_of y (instance_at m y.chosen))) e

module _ (m : Machine) (mask : ℕ) (supplied : Bool) (cost : ℕ) (f : ℕ) (e' : f ≡ folded_in m mask) (a : Machine) (e : a ≡ arrive m mask) where
  pub effect_supplied : supplied ≡ true → served a f cost ≡ effect m mask supplied cost
  unfolding effect
  effect_supplied s = ap₂ (λ (y : Machine) (z : ℕ). served y z cost) e e' ∙ sym (rw (s, effect))

  pub effect-unsupplied : supplied ≡ false → unsupplied a f ≡ effect m mask supplied cost
  unfolding effect
  effect-unsupplied s = ap₂ unsupplied e e' ∙ sym (rw (s, effect))
