-- What a table without faults has passed, test by test. Assumes nothing.
-- HeadPassed, RecordPassed, LinksPassed, BodyPassed: what 2 and 3, one record, 11 to 14, and 5 to 14 with 22 and 24 leave; head_passed, record_passed, links_passed, body_passed.
-- RecordPassedBy, BodyPassedBy: the same with 24 tested or not.
-- head_accepted, body_accepted: what has passed is accepted with index 0. records_known: no record names a callback beyond n. fault_passed, fault_accepted: of a table given as values.
use mathlib.Core.Path.{◌≡◌, refl, ap, ◌∙◌, subst}
use mathlib.Core.Logic.{◌⊎◌, inl, inr, ◌≢◌}
use mathlib.Core.Bool.{Bool, true, false, not, cond, ◌&&◌, ◌||◌}
use Prim.Native.Nat.{ℕ, zero, suc, ◌+◌, ◌≤◌, ◌<◌}
use native.Mathlib.Nat.{eq-or-lt_of_le}
use native.Mathlib.Omega.{arith}
use lib.Dec.{eqb, ltb, leb}
use borrow.Author.Tests.{not-false, ltb-false, le-ltb, le-leb}
use Rattle.ranges.specs.Least.{lowest}
use Rattle.ranges.proofs.EveryLaws.{or_fails, every_all, within_passed}
use Rattle.masks.specs.Mask.{has}
use Rattle.masks.proofs.Slots.{has_zero}
use Rattle.numbers.specs.Numbers
use Rattle.table.specs.declared.Callback.{Callback}
use Rattle.table.specs.declared.Refusal.{Refusal}
use Rattle.table.specs.declared.Table.{Table}
use Rattle.table.specs.Values.{refuse, accepted, callback_at, kind_of, next_of}
use Rattle.table.specs.Links.{named, is_head, on_loop}
use Rattle.rules.specs.Rules.{head_fault, supply_fault, entries_fault, sums_fault, unused_fault, record_fault_by, records_by, body_fault, body_by, fault_of}
use Rattle.link_rules.specs.Parts.{names_known}
use Rattle.ranges.specs.Every.{within}
use Rattle.link_rules.specs.LinkRules.{arrivals_fault, links_fault}
use Rattle.table.proofs.RefusalLaws.{first_passed, both_passed, lowest_passed, lowest_zero}

abbrev number_of : Refusal → ℕ
number_of r = r.number

-- a test in front that is passed, of numbers and of refusals
cond_zero : (b : Bool) (x y : ℕ) → x ≢ 0 → cond b x y ≡ 0 → (b ≡ false) × (y ≡ 0)
cond_zero true x y h e = absurd (h e)
cond_zero false x y h e = (refl, e)

pub test_zero : (b : Bool) (n i : ℕ) (r : Refusal) → n ≢ 0 → (cond b (refuse n i) r).number ≡ 0 → (b ≡ false) × (r.number ≡ 0)
test_zero true n i r h e = absurd (h e)
test_zero false n i r h e = (refl, e)

-- ---- edition and count

pub record HeadPassed (edition count : ℕ) : Type 0 where
  pub edition_from : Numbers.edition_one ≤ edition
  pub edition_to : edition ≤ Numbers.edition_two
  pub some : 1 ≤ count
  pub few : count ≤ Numbers.places

pub head_passed : (edition count : ℕ) → (head_fault edition count).number ≡ 0 → HeadPassed edition count
unfolding head_fault
head_passed edition count e =
    let one = test_zero (not (within Numbers.edition_one Numbers.edition_two edition)) Numbers.unknown_edition 0 _ (λ z. omega arith) e in
    let two = test_zero (not (within 1 Numbers.places count)) Numbers.wrong_count 0 accepted (λ z. omega arith) one.1 in
    let n = within_passed 1 Numbers.places count (not-false _ two.0) in
    let known = within_passed Numbers.edition_one Numbers.edition_two edition (not-false _ one.0) in
    record { edition_from = known.0; edition_to = known.1; some = n.0; few = n.1 }

pub head_accepted : (edition count : ℕ) → HeadPassed edition count → head_fault edition count ≡ accepted
unfolding head_fault
head_accepted edition count p = simp (le-leb Numbers.edition_one edition p.edition_from, le-leb edition Numbers.edition_two p.edition_to, le-leb 1 count p.some, le-leb count Numbers.places p.few)

-- ---- one record

pub record RecordPassedBy (sums : Bool) (n : ℕ) (c : Callback) (spare : Bool) : Type 0 where
  pub kind : within Numbers.timer Numbers.client c.kind ≡ true
  pub next : c.next ≤ n
  pub entries : entries_fault c ≡ false
  pub below_sums : (sums && sums_fault c) ≡ false
  pub unused : unused_fault c ≡ false
  pub clear : spare ≡ false

abbrev pub RecordPassed : ℕ → Callback → Bool → Type 0
RecordPassed = RecordPassedBy true

pub record_passed : (sums : Bool) (n : ℕ) (c : Callback) (spare : Bool) → record_fault_by sums n c spare ≡ 0 → RecordPassedBy sums n c spare
unfolding record_fault_by
record_passed sums n c spare e =
    let one = cond_zero (not (within Numbers.timer Numbers.client c.kind)) Numbers.wrong_kind _ (λ z. omega arith) e in
    let two = cond_zero (ltb n c.next) Numbers.wrong_next _ (λ z. omega arith) one.1 in
    let three = cond_zero (entries_fault c) Numbers.wrong_entries _ (λ z. omega arith) two.1 in
    let four = cond_zero (sums && sums_fault c) Numbers.above_sum _ (λ z. omega arith) three.1 in
    let five = or_fails (unused_fault c) spare (cond_zero (unused_fault c || spare) Numbers.spare_not_zero 0 (λ z. omega arith) four.1).0 in
    record {
      kind = not-false (within Numbers.timer Numbers.client c.kind) one.0;
      next = ltb-false n c.next two.0;
      entries = three.0;
      below_sums = four.0;
      unused = five.0;
      clear = five.1;
    }

-- ---- the records in turn

module _ (sums : Bool) (spares : ℕ) (t : Table) where
  abbrev fault : ℕ → ℕ
  fault i = record_fault_by sums t.count (callback_at t i) (has spares i)

  records_zero : (k i : ℕ) → (records_by sums spares t k i).number ≡ 0 → (j : ℕ) → i ≤ j → j < i + k → fault j ≡ 0
  unfolding records_by
  records_zero zero i e j l h = absurd (omega arith)
  records_zero (suc k) i e j l h = go (fault i) refl e (λ f m. records_zero k (suc i) f j m (omega arith))
    where
      go : (x : ℕ) → fault i ≡ x → (elim x as (λ _. Refusal) [ zero ↦ records_by sums spares t k (suc i) | suc y ↦ refuse (suc y) (suc i) ]).number ≡ 0
          → ((records_by sums spares t k (suc i)).number ≡ 0 → i < j → fault j ≡ 0) → fault j ≡ 0
      go zero f z w = pick (eq-or-lt_of_le l)
        where
          pick : (i ≡ j) ⊎ (i < j) → fault j ≡ 0
          pick (inl q) = subst (λ (x : ℕ). fault x ≡ 0) q f
          pick (inr m) = w z m
      go (suc y) f z w = absurd (omega arith)

  pub records_passed : (records_by sums spares t t.count 0).number ≡ 0 → (i : ℕ) → i < t.count → RecordPassedBy sums t.count (callback_at t i) (has spares i)
  records_passed e i l = record_passed sums t.count (callback_at t i) (has spares i) (records_zero t.count 0 e i (omega arith) (omega arith))

  pub records_known : (records_by sums spares t t.count 0).number ≡ 0 → names_known t ≡ true
  unfolding names_known
  records_known e = every_all (λ i. leb (next_of t i) t.count) t.count (λ i l. le-leb _ _ (records_passed e i l).next)

  -- records that pass are accepted
  records_all : (k i : ℕ) → ((j : ℕ) → i ≤ j → j < i + k → RecordPassedBy sums t.count (callback_at t j) (has spares j)) → records_by sums spares t k i ≡ accepted
  unfolding records_by record_fault_by
  records_all zero i h = refl
  records_all (suc k) i h =
      ap (λ (x : ℕ). elim x as (λ _. Refusal) [ zero ↦ records_by sums spares t k (suc i) | suc y ↦ refuse (suc y) (suc i) ]) right
      ∙ records_all k (suc i) (λ j l m. h j (omega arith) (omega arith))
    where
      right : fault i ≡ 0
      right =
          let p = h i (omega arith) (omega arith) in
          simp (p.kind, le-ltb t.count (next_of t i) p.next, p.entries, p.below_sums, p.unused, p.clear)

-- ---- the links

pub record LinksPassed (t : Table) : Type 0 where
  pub once : lowest (λ i. leb 2 (named t i)) t.count ≡ 0
  pub timers : lowest (λ i. leb 1 (named t i) && eqb (kind_of t i) Numbers.timer) t.count ≡ 0
  pub loops : lowest (on_loop t) t.count ≡ 0
  pub arrivals : lowest (λ i. arrivals_fault (is_head t i) (callback_at t i)) t.count ≡ 0

pub links_passed : (t : Table) → (links_fault t).number ≡ 0 → LinksPassed t
unfolding links_fault
links_passed t e =
    let one = lowest_zero Numbers.named_twice _ _ (λ z. omega arith) e in
    let two = lowest_zero Numbers.timer_named _ _ (λ z. omega arith) one.1 in
    let three = lowest_zero Numbers.loop _ _ (λ z. omega arith) two.1 in
    let four = lowest_zero Numbers.wrong_arrivals _ accepted (λ z. omega arith) three.1 in
    record { once = one.0; timers = two.0; loops = three.0; arrivals = four.0 }

pub links_accepted : (t : Table) → LinksPassed t → links_fault t ≡ accepted
unfolding links_fault
links_accepted t l = lowest_passed _ _ _ l.once ∙ lowest_passed _ _ _ l.timers ∙ lowest_passed _ _ _ l.loops ∙ lowest_passed _ _ _ l.arrivals

-- ---- the body

pub record BodyPassedBy (sums spare : Bool) (spares : ℕ) (t : Table) : Type 0 where
  pub clear : spare ≡ false
  pub supply : supply_fault t.budget t.period ≡ false
  pub delay : t.delay ≤ Numbers.longest
  pub horizon : t.horizon ≤ Numbers.longest
  pub records : (i : ℕ) → i < t.count → RecordPassedBy sums t.count (callback_at t i) (has spares i)
  pub links : LinksPassed t

abbrev pub BodyPassed : Bool → ℕ → Table → Type 0
BodyPassed = BodyPassedBy true

module _ (sums spare : Bool) (spares : ℕ) (t : Table) where
  pub body_passed : (body_by sums spare spares t).number ≡ 0 → BodyPassedBy sums spare spares t
  unfolding body_by
  body_passed e =
      let one = test_zero spare Numbers.spare_not_zero 0 _ (λ z. omega arith) e in
      let two = test_zero (supply_fault t.budget t.period) Numbers.wrong_supply 0 _ (λ z. omega arith) one.1 in
      let three = test_zero (ltb Numbers.longest t.delay) Numbers.wrong_delay 0 _ (λ z. omega arith) two.1 in
      let four = test_zero (ltb Numbers.longest t.horizon) Numbers.wrong_horizon 0 _ (λ z. omega arith) three.1 in
      let rest = both_passed (records_by sums spares t t.count 0) (links_fault t) four.1 in
      record {
        clear = one.0;
        supply = two.0;
        delay = ltb-false Numbers.longest t.delay three.0;
        horizon = ltb-false Numbers.longest t.horizon four.0;
        records = records_passed sums spares t rest.0;
        links = links_passed t rest.1;
      }

  pub body_accepted : BodyPassedBy sums spare spares t → body_by sums spare spares t ≡ accepted
  unfolding body_by
  body_accepted p =
      simp (p.clear, p.supply, le-ltb Numbers.longest t.delay p.delay, le-ltb Numbers.longest t.horizon p.horizon)
      (first_passed _ _ (ap number_of (records_all sums spares t t.count 0 (λ j l m. p.records j (omega arith)))) ∙ links_accepted t p.links)

-- ---- a table given as values

module _ (t : Table) where
  pub fault_passed : (fault_of t).number ≡ 0 → HeadPassed t.edition t.count × BodyPassed false 0 t
  unfolding fault_of
  fault_passed ok =
      let b = both_passed (head_fault t.edition t.count) (body_fault false 0 t) ok in
      (head_passed t.edition t.count b.0, body_passed true false 0 t b.1)

  -- a table whose bytes have passed has no fault
  pub fault_accepted : (spare : Bool) (spares : ℕ) → (head_fault t.edition t.count).number ≡ 0 → BodyPassed spare spares t → fault_of t ≡ accepted
  unfolding fault_of
  fault_accepted spare spares h p = first_passed _ _ h ∙ body_accepted true false 0 t (record {
    clear = refl;
    supply = p.supply;
    delay = p.delay;
    horizon = p.horizon;
    records = λ i l. (let r = p.records i l in record { kind = r.kind; next = r.next; entries = r.entries; below_sums = r.below_sums; unused = r.unused; clear = has_zero i });
    links = p.links;
  })
