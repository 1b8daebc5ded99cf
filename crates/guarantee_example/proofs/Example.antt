-- The claim is not empty: the tables and histories of specs/Example, one of each edition, one behind a delay and one that holds timers up, meet its premises, by computation, so its conclusions hold of them.
--   Computed, computed   what the definitions compute: results, row, that the history is within the curves, and the completion that meets a bound
--   guaranteed, in_time  the guarantee of such a history, and the completion it has promised; `meets` in Computed says that this one comes at its bound, to the tick
use mathlib.Core.Path.{◌≡◌, refl, subst}
use mathlib.Core.Bool.{true}
use mathlib.Core.List.{List}
use Prim.Native.Nat.{ℕ, ◌+◌, ◌≤◌}
use lib.Dec.{T, ltb, leb}
use lib.ListN.{length, get_or, replicate}
use borrow.Author.Tests.{ltb-true, leb-true}
use Rattle.masks.specs.Mask.{has, with_bit, without_bit, gather, count_of}
use Rattle.lent.specs.Bytes.{numbers, run, zeros, fields_at, field_bytes}
use Rattle.lent.specs.Over.{over}
use Rattle.ranges.specs.Sum.{sum, hit}
use Rattle.ranges.specs.Least.{least, largest}
use Rattle.ranges.specs.Every.{every, some}
use Rattle.ranges.proofs.EveryLaws.{holds}
use Rattle.numbers.specs.Numbers.{most_ticks}
use Rattle.curves.specs.Arrivals.{ceiling, arrivals}
use Rattle.curves.specs.Cost.{cost}
use Rattle.curves.specs.Supply.{supply, delayed_supply}
use Rattle.curves.specs.Demand.{limit}
use Rattle.table.specs.Values.{horizon_of, placed}
use Rattle.table.specs.Walk.{walk}
use Rattle.table.specs.Links.{linked, named, is_head, on_loop, next_after, foreign}
use Rattle.priority.specs.Priority.{precedes, foremost_from}
use Rattle.chains.specs.Chains.{feeder, head_from, head_of}
use Rattle.link_rules.specs.LinkRules.{arrivals_fault, links_fault}
use Rattle.rules.specs.Rules.{head_fault, supply_fault, entries_fault, sums_fault, unused_fault, record_fault_by, records_by, body_by, fault_of}
use Rattle.reader.specs.Format.{record_at, spare_at, table_at, spares_at, whole_by, read_fault_by, read_by}
use Rattle.windows.specs.Window.{covered, covered_for, window, finish, bound}
use Rattle.windows.specs.Bounds.{arrivals_of, cost_of, supply_of, window_of, bound_of_all, arrivals_in, window_in, bound_in}
use Rattle.levels.specs.Levels.{overtakes, lower_than, blocking_by, level_of, window_of_level, bound_of_level, bound_of}
use Rattle.sheet.specs.Sheet.{too_many_at, sheet_fault, analysis_fault, bounds_to, row_of}
use Rattle.queues.specs.Queues.{arrived_to, arrived, counted, full_with}
use Rattle.folding.specs.Folding.{unstarted, folded_of, kept, kept_of}
use Rattle.turns.specs.Choosing.{polled, gathered_of, choose}
use Rattle.turns.specs.Turns.{turn_of, step_of}
use Rattle.faults.specs.Faults.{table_fault, beyond_wrong, count_wrong, cache_wrong, slot_wrong, run_wrong}
use Rattle.executor.specs.State.{fresh, faulty}
use Rattle.executor.specs.Effect.{unsupplied, instance_at, left, served, effect}
use Rattle.executor.specs.Tick.{full, tick_fault, refused, tick_of}
use Rattle.executor.specs.Start.{start_of}
use Rattle.guarantee.specs.History.{Result, results, tick_at, result_at, completes_at, releases_at, released_by, activated_at, activations, Activation, starts_at, completions, Completion}
use Rattle.guarantee.specs.Within.{WithinCurves}
use Rattle.guarantee.specs.Claim.{Guaranteed}
use Rattle.guarantee.proofs.Guarantee.{guarantee}
use Rattle.guarantee_example.specs.Example.{Case, one, two, delayed, held_up}
use Rattle.guarantee_example.proofs.Decide.{every_window, arrivals_hold, supply_holds, costs_hold, heads_hold, offer_holds, within_test, decided}

-- a row of sixteen places, as the host lends it
abbrev pub lent : List ℕ
lent = replicate 16 0

-- when the bound of a case is over
abbrev pub due : Case → ℕ
due c = c.activated + get_or c.row c.slot 0

-- what the definitions compute of a case
pub record Computed (c : Case) : Type 0 where
  -- what the machine says, tick by tick
  pub replied : results (start_of c.bytes).machine c.ticks ≡ c.says
  -- the analyser accepts the table, and writes the row
  pub accepted : (analysis_fault c.bytes (length lent)).number ≡ 0
  pub written : row_of c.bytes lent ≡ c.row
  -- the history is within the curves, and no longer than the clock
  pub within : within_test (table_at c.bytes) c.ticks c.says ≡ true
  pub short : T (leb (length c.ticks) most_ticks)
  -- the slot is one of the table; the activation is there, and its bound is over before the history is
  pub known : T (ltb c.slot (table_at c.bytes).count)
  pub activated : Activation (table_at c.bytes) c.ticks c.says (head_of (table_at c.bytes) c.slot) c.nth c.activated
  pub reached : T (leb (due c) (length c.ticks))
  -- the completion comes at the bound
  pub meets : Completion c.says c.slot c.nth (due c)

-- all of it by computation, of each
pub computed : Computed one × Computed two × Computed delayed × Computed held_up
unfolding has with_bit without_bit gather count_of numbers run zeros fields_at field_bytes over sum hit least largest every some ceiling arrivals cost supply delayed_supply limit horizon_of walk linked named is_head on_loop next_after foreign foremost_from feeder head_from head_of arrivals_fault links_fault head_fault supply_fault entries_fault sums_fault unused_fault record_fault_by records_by body_by fault_of record_at spare_at placed table_at spares_at whole_by read_fault_by read_by covered covered_for window finish bound arrivals_of cost_of supply_of window_of bound_of_all arrivals_in window_in bound_in precedes overtakes lower_than blocking_by level_of window_of_level bound_of_level bound_of too_many_at sheet_fault analysis_fault bounds_to row_of arrived_to arrived counted full_with unstarted folded_of kept kept_of polled gathered_of choose turn_of step_of table_fault beyond_wrong count_wrong cache_wrong slot_wrong run_wrong fresh faulty unsupplied instance_at left served effect full tick_fault refused tick_of start_of results tick_at result_at completes_at releases_at released_by activated_at activations Activation starts_at completions Completion one two delayed held_up every_window arrivals_hold supply_holds costs_hold heads_hold offer_holds within_test
computed = (
  record { replied = refl; accepted = refl; written = refl; within = refl; short = tt; known = tt; activated = (tt, refl); reached = tt; meets = (tt, refl) },
  record { replied = refl; accepted = refl; written = refl; within = refl; short = tt; known = tt; activated = (tt, refl); reached = tt; meets = (tt, refl) },
  record { replied = refl; accepted = refl; written = refl; within = refl; short = tt; known = tt; activated = (tt, refl); reached = tt; meets = (tt, refl) },
  record { replied = refl; accepted = refl; written = refl; within = refl; short = tt; known = tt; activated = (tt, refl); reached = tt; meets = (tt, refl) },
)

module _ (c : Case) (k : Computed c) where
  -- the guarantee, of this history
  pub guaranteed : Guaranteed (table_at c.bytes) c.row c.ticks c.says
  guaranteed =
      subst (λ (x : List ℕ). Guaranteed (table_at c.bytes) x c.ticks c.says) k.written
      (subst (λ (r : List Result). WithinCurves (table_at c.bytes) c.ticks r → Guaranteed (table_at c.bytes) (row_of c.bytes lent) c.ticks r) k.replied
      (guarantee c.bytes lent c.ticks k.accepted (leb-true _ _ (holds _ k.short))) (decided (table_at c.bytes) c.ticks c.says k.within))

  -- so the completion is there by the time that the bound is over
  pub in_time : (t : ℕ) × (t ≤ due c) × Completion c.says c.slot c.nth t
  in_time = guaranteed.finished c.slot c.nth c.activated (ltb-true _ _ (holds _ k.known)) k.activated (leb-true _ _ (holds _ k.reached))

-- edition 1: the service's first completion is there at 13 or earlier, and it is at 13
pub in_time_one : (t : ℕ) × (t ≤ 13) × Completion one.says 2 1 t
unfolding one
in_time_one = in_time one computed.0

pub tight_one : Completion one.says 2 1 13
unfolding one
tight_one = computed.0.meets

-- edition 2: the timer's second completion is there at 9 or earlier, and it is at 9
pub in_time_two : (t : ℕ) × (t ≤ 9) × Completion two.says 0 2 t
unfolding two
in_time_two = in_time two computed.1

pub tight_two : Completion two.says 0 2 9
unfolding two
tight_two = computed.1.meets

-- behind a delay: the subscription's first completion is there at 10 or earlier, and it is at 10
pub in_time_delayed : (t : ℕ) × (t ≤ 10) × Completion delayed.says 1 1 t
unfolding delayed
in_time_delayed = in_time delayed computed.2

pub tight_delayed : Completion delayed.says 1 1 10
unfolding delayed
tight_delayed = computed.2.meets

-- timers held up: the second timer's first completion is there at 10 or earlier, and it is at 10; the first timer's is at 7, its bound too
pub in_time_held_up : (t : ℕ) × (t ≤ 10) × Completion held_up.says 1 1 t
unfolding held_up
in_time_held_up = in_time held_up computed.3

pub tight_held_up : Completion held_up.says 1 1 10
unfolding held_up
tight_held_up = computed.3.meets
