-- Refusals 11 to 14 over a table's links and arrivals, first match (document 01, 'Where each refusal is tested').
use Rattle.std.specs.Prelude.{Bool, cond, not, ◌&&◌, ◌||◌, eqb, ltb, leb}
use Rattle.ranges.specs.Every.{within}
use Rattle.ranges.specs.Least.{lowest}
use Rattle.numbers.specs.Numbers
use Rattle.table.specs.declared.Callback.{Callback}
use Rattle.table.specs.declared.Refusal.{Refusal}
use Rattle.table.specs.declared.Table.{Table}
use Rattle.table.specs.Values.{accepted, lowest_refused, callback_at, kind_of}
use Rattle.table.specs.Links.{named, is_head, on_loop}

-- 14: T, J or d of a head out of its range, or one of a follower that is not zero
unfoldable pub arrivals_fault : Bool → Callback → Bool
arrivals_fault head c =
    cond head
    (not (within 1 Numbers.longest c.period) || (ltb Numbers.longest c.jitter || not (within 1 c.period c.distance)))
    (not (eqb c.period 0) || (not (eqb c.jitter 0) || not (eqb c.distance 0)))

-- 11 to 14, each with the lowest callback that it is true of
unfoldable pub links_fault : Table → Refusal
links_fault t =
    lowest_refused Numbers.named_twice (lowest (λ i. leb 2 (named t i)) t.count)
    (lowest_refused Numbers.timer_named (lowest (λ i. leb 1 (named t i) && eqb (kind_of t i) Numbers.timer) t.count)
    (lowest_refused Numbers.loop (lowest (on_loop t) t.count)
    (lowest_refused Numbers.wrong_arrivals (lowest (λ i. arrivals_fault (is_head t i) (callback_at t i)) t.count) accepted)))
