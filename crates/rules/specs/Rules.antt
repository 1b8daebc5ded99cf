-- Refusals 2 to 14, 22 and 24 over a table's values, first match (document 01, 'Where each refusal is tested').
-- head_fault: 2 and 3, which the reader tests before it knows the length that a table must have. body_fault: 5 to 14, 22 and 24; what only bytes can show comes in
-- as two tests, a spare byte of the header not zero and the records with one. fault_of: both, of a table given as values.
-- record_fault_by, records_by, body_by: the same with 24 tested or not, since the program of document 02's U7 reads tables as before it.
use Rattle.std.specs.Prelude.{Bool, true, false, cond, not, ◌&&◌, ◌||◌, List, ℕ, zero, suc, ◌+◌, ◌-◌, eqb, ltb, leb, get_or}
use Rattle.ranges.specs.Every.{every, within}
use Rattle.masks.specs.Mask.{has}
use Rattle.numbers.specs.Numbers
use Rattle.curves.specs.Cost.{entry}
use Rattle.table.specs.declared.Callback.{Callback}
use Rattle.table.specs.declared.Refusal.{Refusal}
use Rattle.table.specs.declared.Table.{Table}
use Rattle.table.specs.Values.{refuse, accepted, or_else, callback_at}
use Rattle.link_rules.specs.LinkRules.{links_fault}

-- 2, then 3: edition (1, or by U1 of document 02 also 2) and count
unfoldable pub head_fault : ℕ → ℕ → Refusal
head_fault edition count =
    cond (not (within Numbers.edition_one Numbers.edition_two edition)) (refuse Numbers.unknown_edition 0)
    (cond (not (within 1 Numbers.places count)) (refuse Numbers.wrong_count 0) accepted)

-- 6: no budget, more than the period, or too long a period
unfoldable pub supply_fault : ℕ → ℕ → Bool
supply_fault budget period = eqb budget 0 || (ltb period budget || ltb Numbers.longest period)

-- 10: m is not 1 to 8, or one of the first m entries is not above the one before it, or too large
unfoldable pub entries_fault : Callback → Bool
entries_fault c =
    not
    (within 1 Numbers.entry_places c.used
    && every c.used (λ k. ltb (entry c.entries k) (entry c.entries (suc k)) && leb (entry c.entries (suc k)) Numbers.longest))

-- E(k + 1) is at most the sum of the entries of j + 1 and k - j, the two parts of its position whose first is j + 1
abbrev pub joins : List ℕ → ℕ → ℕ → Bool
joins es k j = leb (entry es (suc k)) (entry es (suc j) + entry es (k - j))

-- 24 (U7 of document 02): one of the first m entries is above the sum of two whose positions add up to its own
unfoldable pub sums_fault : Callback → Bool
sums_fault c = not (every c.used (λ k. every k (joins c.entries k)))

-- 5, first half: an entry beyond the first m is not zero
unfoldable pub unused_fault : Callback → Bool
unused_fault c = not (every Numbers.entry_places (λ k. ltb k c.used || eqb (get_or c.entries k 0) 0))

-- 8, 9, 10, 24, 5 of one record: the number, 0 for none; `sums` says that 24 is tested, `spare` that a spare byte of the record is not zero
unfoldable pub record_fault_by : Bool → ℕ → Callback → Bool → ℕ
record_fault_by sums n c spare =
    cond (not (within Numbers.timer Numbers.client c.kind)) Numbers.wrong_kind
    (cond (ltb n c.next) Numbers.wrong_next
    (cond (entries_fault c) Numbers.wrong_entries
    (cond (sums && sums_fault c) Numbers.above_sum
    (cond (unused_fault c || spare) Numbers.spare_not_zero 0))))

abbrev pub record_fault : ℕ → Callback → Bool → ℕ
record_fault = record_fault_by true

-- the records in turn, k of them from slot i on: a record is tested whole before the next one
unfoldable pub records_by : Bool → ℕ → Table → ℕ → ℕ → Refusal
records_by sums spares t zero i = accepted
records_by sums spares t (suc k) i =
    elim (record_fault_by sums t.count (callback_at t i) (has spares i)) [ zero ↦ records_by sums spares t k (suc i) | suc x ↦ refuse (suc x) (suc i) ]

-- 5 of the header, 6, 22 (U2 of document 02), 7, the records, 11 to 14
unfoldable pub body_by : Bool → Bool → ℕ → Table → Refusal
body_by sums spare spares t =
    cond spare (refuse Numbers.spare_not_zero 0)
    (cond (supply_fault t.budget t.period) (refuse Numbers.wrong_supply 0)
    (cond (ltb Numbers.longest t.delay) (refuse Numbers.wrong_delay 0)
    (cond (ltb Numbers.longest t.horizon) (refuse Numbers.wrong_horizon 0)
    (or_else (records_by sums spares t t.count 0) (links_fault t)))))

abbrev pub body_fault : Bool → ℕ → Table → Refusal
body_fault = body_by true

-- what is wrong with a table given as values
unfoldable pub fault_of : Table → Refusal
fault_of t = or_else (head_fault t.edition t.count) (body_fault false 0 t)
