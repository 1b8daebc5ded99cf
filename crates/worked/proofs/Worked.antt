-- The table of cases is right: its test computes to true, and a test that is true of a table is a fact of each of its cases.
use mathlib.Core.Path.{◌≡◌, refl, ap, ap₂, sym, ◌∙◌}
use mathlib.Core.Bool.{Bool, true, false}
use mathlib.Core.List.{List, [], ◌∷◌, Memᴰ}
use Prim.Native.Nat.{ℕ}
use lib.Dec.{T, eqb, eqb→eq}
use Rattle.masks.specs.Mask.{has, with_bit, without_bit, gather, count_of}
use Rattle.lent.specs.Bytes.{numbers, run, zeros, fields_at, field_bytes}
use Rattle.lent.specs.Over.{over}
use Rattle.ranges.specs.Sum.{sum, hit}
use Rattle.ranges.specs.Least.{least, largest}
use Rattle.ranges.specs.Every.{every, some}
use Rattle.curves.specs.Arrivals.{ceiling, arrivals}
use Rattle.curves.specs.Cost.{cost}
use Rattle.curves.specs.Supply.{supply, delayed_supply}
use Rattle.curves.specs.Demand.{limit}
use Rattle.table.specs.Values.{horizon_of, placed}
use Rattle.table.specs.Walk.{walk}
use Rattle.table.specs.Links.{linked, named, is_head, on_loop, next_after, foreign}
use Rattle.priority.specs.Priority.{precedes, foremost_from}
use Rattle.chains.specs.Chains.{feeder, head_from, head_of}
use Rattle.link_rules.specs.LinkRules.{arrivals_fault, links_fault}
use Rattle.rules.specs.Rules.{head_fault, supply_fault, entries_fault, sums_fault, unused_fault, record_fault_by, records_by, body_by, fault_of}
use Rattle.reader.specs.Format.{record_at, spare_at, table_at, spares_at, whole_by, read_fault_by, read_by}
use Rattle.reader.specs.Written.{record_bytes, records_bytes, written}
use Rattle.windows.specs.Window.{covered, covered_for, window, finish, bound}
use Rattle.windows.specs.Bounds.{arrivals_of, cost_of, supply_of, window_of, bound_of_all, arrivals_in, window_in, bound_in}
use Rattle.levels.specs.Levels.{overtakes, lower_than, blocking_by, level_of, window_of_level, bound_of_level, bound_of}
use Rattle.sheet.specs.Sheet.{too_many_at, sheet_fault, analysis_fault, sheet_of, bounds_to, row_of}
use Rattle.queues.specs.Queues.{arrived_to, arrived, counted, full_with}
use Rattle.folding.specs.Folding.{unstarted, folded_of, kept, kept_of}
use Rattle.turns.specs.Choosing.{polled, gathered_of, choose}
use Rattle.turns.specs.Turns.{turn_of, step_of}
use Rattle.faults.specs.Faults.{table_fault, beyond_wrong, count_wrong, cache_wrong, slot_wrong, run_wrong}
use Rattle.executor.specs.State.{fresh, faulty}
use Rattle.executor.specs.Effect.{instance_at, left, served, effect}
use Rattle.executor.specs.Tick.{full, tick_fault, tick_of}
use Rattle.executor.specs.Start.{start_of}
use Rattle.worked.specs.Ticks.{says_over}
use Rattle.worked.specs.Worked.{Case, table, same, agree, Reckoned}

both : (b x : Bool) → T (elim b [ true ↦ x | false ↦ false ]) → T b × T x
both true x t = (tt, t)
both false x t = absurd t

same→eq : (xs ys : List ℕ) → T (same xs ys) → xs ≡ ys
unfolding same
same→eq [] [] t = refl
same→eq [] (y ∷ ys) t = absurd t
same→eq (x ∷ xs) [] t = absurd t
same→eq (x ∷ xs) (y ∷ ys) t = let s = both (eqb x y) (same xs ys) t in ap₂ ◌∷◌ (eqb→eq x y s.0) (same→eq xs ys s.1)

-- a table that passes the test is right in each of its cases
pub each : {c : Case} {cs : List Case} → T (agree cs) → Memᴰ c cs → c.reckoned ≡ c.paper
unfolding agree
each {c} t (Memᴰ.head {x = x} {xs = cs} e) =
    ap (λ (d : Case). d.reckoned) e
    ∙ same→eq x.reckoned x.paper (both (same x.reckoned x.paper) (agree cs) t).0
    ∙ sym (ap (λ (d : Case). d.paper) e)
each {c} t (Memᴰ.tail {x = x} {xs = cs} i) = each (both (same x.reckoned x.paper) (agree cs) t).1 i

passes : T (agree table)
unfolding has with_bit without_bit gather count_of numbers run zeros fields_at field_bytes over sum hit least largest every some ceiling arrivals cost supply delayed_supply limit horizon_of walk linked named is_head on_loop next_after foreign foremost_from feeder head_from head_of arrivals_fault links_fault head_fault supply_fault entries_fault sums_fault unused_fault record_fault_by records_by body_by fault_of record_at spare_at placed table_at spares_at whole_by read_fault_by read_by record_bytes records_bytes written covered covered_for window finish bound arrivals_of cost_of supply_of window_of bound_of_all arrivals_in window_in bound_in precedes overtakes lower_than blocking_by level_of window_of_level bound_of_level bound_of too_many_at sheet_fault analysis_fault sheet_of bounds_to row_of arrived_to arrived counted full_with unstarted folded_of kept kept_of polled gathered_of choose turn_of step_of table_fault beyond_wrong count_wrong cache_wrong slot_wrong run_wrong fresh faulty instance_at left served effect full tick_fault tick_of start_of says_over table same agree
passes = tt

pub reckoned : Reckoned
reckoned c i = each passes i
