-- The bytes of a table's values and the reader are inverse to each other. Assumes nothing.
-- Writable: the tables that bytes can hold. length-written, table_at-written, read_fault-written: what was written is read back, and accepted.
-- writable_read, written-table_at: what was read and accepted can be written, and is written back.
use mathlib.Core.Path.{◌≡◌, refl, sym, ap, ap₂, ◌∙◌}
use mathlib.Core.Bool.{true, false}
use mathlib.Core.Logic.{◌⊎◌, inl, inr}
use mathlib.Core.List.{List, [], ◌∷◌, ◌++◌, append_assoc, append-nil}
use Prim.Native.Nat.{ℕ, zero, suc, ◌≤◌, ◌<◌, ◌+◌, ◌*◌}
use native.Mathlib.Nat.{add-zero, eq-or-lt_of_le, le_of_suc-le-suc}
use native.Mathlib.Omega.{arith}
use lib.ListN.{length, get_or, take, drop, replicate, length-append}
use lib.Seq.{ext_get_or, drop-drop, take-add, take_all}
use borrow.Author.Tests.{eq-eqb, le-ltb, not-false}
use Rattle.ranges.proofs.SumLaws.{le_or_lt}
use Rattle.ranges.proofs.EveryLaws.{and_holds}
use Rattle.numbers.specs.Numbers.{places, header_length, record_length, entry_places}
use Rattle.masks.specs.Mask.{gather}
use Rattle.masks.proofs.Gather.{gather_none}
use Rattle.lent.specs.Bytes.{numbers, zeros, fields_at, field_bytes}
use Rattle.lent.specs.Parts.{Fit}
use Rattle.lent.proofs.Fields.{below_all, below_zeros, fit_sized, length_fields, fields_back, fields_again}
use Rattle.lent.proofs.Spare.{zeros-numbers, numbers-zeros}
use Rattle.table.specs.declared.Callback.{Callback}
use Rattle.table.specs.declared.Refusal.{Refusal}
use Rattle.table.specs.declared.Table.{Table}
use Rattle.table.specs.Values.{accepted, callback_of, table_of, blank, vacant, callback_at}
use Rattle.table.proofs.PlacedLaws.{placed-length, placed_in, placed_out}
use Rattle.rules.specs.Rules.{fault_of}
use Rattle.rules.specs.Parts.{Sound}
use Rattle.rules.proofs.Passed.{head_accepted, body_accepted, fault_passed}
use Rattle.rules.proofs.Sound.{sound, ticks-le, entries_le}
use Rattle.reader.specs.Format.{header_fields, record_fields, field_of, header_clear, record_at, spare_at, record_start, records_to, table_at, spares_at, whole_by, read_fault, read_fault_by}
use Rattle.reader.specs.Written.{header_numbers, record_numbers, record_bytes, records_bytes, written}
use Rattle.reader.proofs.Accepted.{read_passed, read_spare, read_accepted, read_record, read_blank}

-- a table without faults whose lists have their lengths, and blank places beyond n
pub record Writable (t : Table) : Type 0 where
  pub faultless : (fault_of t).number ≡ 0
  pub places-length : length t.callbacks ≡ places
  pub entries_length : (i : ℕ) → i < t.count → length (callback_at t i).entries ≡ entry_places
  pub beyond : (i : ℕ) → t.count ≤ i → i < places → callback_at t i ≡ blank

-- bytes that hold a table without faults, and nothing else, are accepted
accepted_by : (t : Table) → (fault_of t).number ≡ 0 → (b : List ℕ) → length b ≡ record_start t.count → get_or b 0 0 ≡ t.edition → get_or b 1 0 ≡ t.count
    → header_clear b ≡ true → spares_at b ≡ 0 → table_at b ≡ t → read_fault b ≡ accepted
unfolding read_fault_by whole_by
accepted_by t ok b n e k z s v =
    let p = fault_passed t ok in
    simp (read_fault_by, le-ltb (length b) header_length (omega arith), e, k, eq-eqb (length b) (record_start t.count) n, z, s, v, head_accepted t.edition t.count p.0)
    (body_accepted true false 0 t p.1)

-- ---- written, then read

module _ (t : Table) (w : Writable t) where
  so : Sound t
  so = sound t w.faultless

  fit_header : Fit header_fields (header_numbers t)
  fit_header = (
    refl,
    (omega (arith, so.edition_to), (omega (arith, so.few), tt)),
    (refl, (omega (arith, so.budget_le, so.period_le), (omega (arith, so.period_le), (omega (arith, so.horizon_le), (omega (arith, so.delay_le), tt)))), (refl, below_zeros 256 6 (omega arith), tt)),
  )

  -- the header, with what follows it
  header_back : (r : List ℕ) → fields_at header_fields (field_bytes header_fields (header_numbers t) ++ r) 0 0 ≡ header_numbers t
  header_back r = fields_back header_fields (header_numbers t) [] r 0 0 refl fit_header

  length-header : length (field_bytes header_fields (header_numbers t)) ≡ header_length
  length-header = length_fields header_fields (header_numbers t) (fit_sized header_fields (header_numbers t) fit_header)

  -- the record of slot i
  module _ (i : ℕ) (l : i < t.count) where
    abbrev c : Callback
    c = callback_at t i

    fit_record : Fit record_fields (record_numbers c)
    fit_record =
        let ticks = ticks-le t w.faultless i l in (
          refl,
          (omega (arith, so.kind_to i l), (omega (arith, so.names i l, so.few), (omega (arith, so.entries_few i l), tt))),
          (
            refl,
            below_zeros 256 1 (omega arith),
            (
              refl,
              (omega (arith, ticks.0), (omega (arith, ticks.1), (omega (arith, ticks.2), tt))),
              (
                refl,
                below_zeros 256 2 (omega arith),
                (w.entries_length i l, below_all 65536 c.entries (λ k h. omega (arith, entries_le t w.faultless i l k (omega (arith, w.entries_length i l)))), (refl, below_zeros 256 4 (omega arith), tt)),
              ),
            ),
          ),
        )

    length-record : length (record_bytes c) ≡ record_length
    unfolding record_bytes
    length-record = length_fields record_fields (record_numbers c) (fit_sized record_fields (record_numbers c) fit_record)

    -- behind a prefix, with what follows it
    module _ (p q : List ℕ) (k : ℕ) (e : length p ≡ k) where
      abbrev whole : List ℕ
      whole = p ++ (record_bytes c ++ q)

      fields_are : fields_at record_fields whole k 0 ≡ record_numbers c
      unfolding record_bytes
      fields_are = fields_back record_fields (record_numbers c) p q k 0 (omega arith) fit_record

      record_back : record_at whole k ≡ c
      unfolding record_at
      record_back = ap (λ (vs : List (List ℕ)). callback_of (field_of vs 0) (field_of vs 2) (field_of vs 4)) fields_are

      spare_back : spare_at whole k ≡ false
      unfolding spare_at fields_at
      spare_back =
          let at : (j : ℕ) → field_of (fields_at record_fields whole k 0) j ≡ field_of (record_numbers c) j = λ j. ap (λ (vs : List (List ℕ)). field_of vs j) fields_are in
          simp (numbers-zeros whole k 3 1 (at 1), numbers-zeros whole k 10 2 (at 3), numbers-zeros whole k 28 4 (at 5))

  -- ---- the whole table

  length_records : (n : ℕ) → n ≤ t.count → length (records_bytes t n) ≡ record_length * n
  unfolding records_bytes
  length_records zero h = refl
  length_records (suc n) h =
      omega (arith, length-append (records_bytes t n) (record_bytes (callback_at t n)), length_records n (omega arith), length-record n h)

  pub length-written : length (written t) ≡ record_start t.count
  unfolding written
  length-written =
      omega (arith, length-append (field_bytes header_fields (header_numbers t)) (records_bytes t t.count), length-header, length_records t.count (omega arith))

  -- the record of slot i among the first n, with what stands behind it
  split : (n i : ℕ) → i < n → (q : List ℕ) × (records_bytes t n ≡ records_bytes t i ++ (record_bytes (callback_at t i) ++ q))
  unfolding records_bytes
  split zero i l = absurd (omega arith)
  split (suc n) i l = go (eq-or-lt_of_le (le_of_suc-le-suc l)) (λ k. split n i k)
    where
      go : (i ≡ n) ⊎ (i < n) → (i < n → (q : List ℕ) × (records_bytes t n ≡ records_bytes t i ++ (record_bytes (callback_at t i) ++ q)))
          → (q : List ℕ) × (records_bytes t n ++ record_bytes (callback_at t n) ≡ records_bytes t i ++ (record_bytes (callback_at t i) ++ q))
      go (inl s) before = ([], ap (λ (j : ℕ). records_bytes t j ++ record_bytes (callback_at t j)) (sym s) ∙ simp append-nil)
      go (inr k) before =
          let x = before k in
          (x.0 ++ record_bytes (callback_at t n), ap (λ (l : List ℕ). l ++ record_bytes (callback_at t n)) x.1 ∙ simp append_assoc)

  module _ (r : List ℕ) where
    abbrev b : List ℕ
    b = written t ++ r

    fields_header : fields_at header_fields b 0 0 ≡ header_numbers t
    unfolding written
    fields_header = ap (λ (x : List ℕ). fields_at header_fields x 0 0) (append_assoc (field_bytes header_fields (header_numbers t)) (records_bytes t t.count) r) ∙ header_back (records_bytes t t.count ++ r)

    pub count_back : get_or b 1 0 ≡ t.count
    unfolding fields_at numbers
    count_back = ap (λ (vs : List (List ℕ)). get_or (field_of vs 0) 1 0) fields_header

    edition_back : get_or b 0 0 ≡ t.edition
    unfolding fields_at numbers
    edition_back = ap (λ (vs : List (List ℕ)). get_or (field_of vs 0) 0 0) fields_header

    -- the bytes up to and from the record of slot i
    module _ (i : ℕ) (l : i < t.count) where
      front : List ℕ
      front = field_bytes header_fields (header_numbers t) ++ records_bytes t i

      length_front : length front ≡ record_start i
      unfolding front
      length_front = omega (arith, length-append (field_bytes header_fields (header_numbers t)) (records_bytes t i), length-header, length_records i (omega arith))

      behind : (q : List ℕ) × (b ≡ front ++ (record_bytes (callback_at t i) ++ q))
      unfolding written front
      behind = let x = split t.count i l in (x.0 ++ r, ap (λ (s : List ℕ). (field_bytes header_fields (header_numbers t) ++ s) ++ r) x.1 ∙ simp append_assoc)

      slot_back : record_at b (record_start i) ≡ callback_at t i
      slot_back = let x = behind in ap (λ (y : List ℕ). record_at y (record_start i)) x.1 ∙ record_back i l front x.0 (record_start i) length_front

      slot_spare : spare_at b (record_start i) ≡ false
      slot_spare = let x = behind in ap (λ (y : List ℕ). spare_at y (record_start i)) x.1 ∙ spare_back i l front x.0 (record_start i) length_front

    -- the sixteen places
    places_back : records_to b t.count ≡ t.callbacks
    places_back =
        ext_get_or vacant (records_to b t.count) t.callbacks (placed-length slots t.count ∙ sym w.places-length)
        (λ i l. slot i (omega (arith, placed-length slots t.count)) (le_or_lt t.count i))
      where
        slots : ℕ → Callback
        slots i = record_at b (record_start i)

        slot : (i : ℕ) → i < places → (t.count ≤ i) ⊎ (i < t.count) → get_or (records_to b t.count) i vacant ≡ callback_at t i
        slot i l (inl h) = placed_out slots t.count i h l ∙ sym (w.beyond i h l)
        slot i l (inr h) = placed_in slots t.count i so.few h ∙ slot_back i h

    -- what was written is read back, whatever follows it
    pub table_at-written : table_at b ≡ t
    unfolding table_at
    table_at-written =
        ap₂ (λ (vs : List (List ℕ)) (cs : List Callback). table_of (field_of vs 0) (field_of vs 1) cs) fields_header (ap (records_to b) count_back ∙ places_back)

    spares_none : spares_at b ≡ 0
    unfolding spares_at
    spares_none = ap (gather (λ i. spare_at b (record_start i))) count_back ∙ gather_none (λ i. spare_at b (record_start i)) t.count slot_spare

    header_spare : header_clear b ≡ true
    unfolding fields_at
    header_spare = numbers-zeros b 0 10 6 (ap (λ (vs : List (List ℕ)). field_of vs 2) fields_header)

  -- and accepted
  pub read_fault-written : read_fault (written t) ≡ accepted
  read_fault-written =
      ap read_fault (sym (append-nil (written t)))
      ∙ accepted_by t w.faultless (written t ++ []) (ap length (append-nil (written t)) ∙ length-written) (edition_back []) (count_back []) (header_spare []) (spares_none []) (table_at-written [])

-- ---- read, then written

module _ (b : List ℕ) (ok : (read_fault b).number ≡ 0) where
  pub writable_read : Writable (table_at b)
  unfolding table_at record_at fields_at numbers
  writable_read =
      record {
        faultless = ap (λ (r : Refusal). r.number) (read_accepted b ok);
        places-length = placed-length (λ i. record_at b (record_start i)) (get_or b 1 0);
        entries_length = λ i l. ap (λ (c : Callback). length c.entries) (read_record b ok i l);
        beyond = read_blank b ok;
      }

  module _ (bytes : (i : ℕ) → get_or b i 0 < 256) where
    header_again : field_bytes header_fields (header_numbers (table_at b)) ≡ take header_length b
    unfolding table_at fields_at numbers
    header_again =
        ap (λ (x : List ℕ). field_bytes header_fields (numbers 1 b 0 0 2 ∷ numbers 2 b 0 2 4 ∷ x ∷ [])) (sym (zeros-numbers b 0 10 6 (not-false _ (read_passed b ok).body.clear)))
        ∙ fields_again header_fields b 0 0 bytes (read_passed b ok).long

    -- the record from byte k on
    record_again : (k : ℕ) → k + record_length ≤ length b → spare_at b k ≡ false → record_bytes (record_at b k) ≡ take record_length (drop k b)
    unfolding record_bytes record_at spare_at fields_at numbers
    record_again k h e =
        let one = and_holds (zeros b (k + 3) 1) _ (not-false _ e) in
        let two = and_holds (zeros b (k + 10) 2) (zeros b (k + 28) 4) one.1 in
        ap (λ (x : List ℕ). field_bytes record_fields (numbers 1 b k 0 3 ∷ x ∷ numbers 2 b k 4 3 ∷ replicate 2 0 ∷ numbers 2 b k 12 8 ∷ replicate 4 0 ∷ [])) (sym (zeros-numbers b k 3 1 one.0))
        ∙ ap (λ (x : List ℕ). field_bytes record_fields (numbers 1 b k 0 3 ∷ numbers 1 b k 3 1 ∷ numbers 2 b k 4 3 ∷ x ∷ numbers 2 b k 12 8 ∷ replicate 4 0 ∷ [])) (sym (zeros-numbers b k 10 2 two.0))
        ∙ ap (λ (x : List ℕ). field_bytes record_fields (numbers 1 b k 0 3 ∷ numbers 1 b k 3 1 ∷ numbers 2 b k 4 3 ∷ numbers 1 b k 10 2 ∷ numbers 2 b k 12 8 ∷ x ∷ [])) (sym (zeros-numbers b k 28 4 two.1))
        ∙ fields_again record_fields b k 0 bytes (omega arith)
        ∙ ap (λ (j : ℕ). take record_length (drop j b)) (add-zero k)

    records_again : (i : ℕ) → i ≤ get_or b 1 0 → records_bytes (table_at b) i ≡ take (record_length * i) (drop header_length b)
    unfolding records_bytes
    records_again zero h = refl
    records_again (suc i) h =
        let more : record_length * i + record_length ≡ record_length * suc i = omega arith in
        ap₂ ◌++◌
        (records_again i (omega arith))
        (ap record_bytes (read_record b ok i h)
        ∙ record_again (record_start i) (omega (arith, (read_passed b ok).fits)) (read_spare b ok i h)
        ∙ ap (take record_length) (sym (drop-drop (record_length * i) header_length b)))
        ∙ sym (take-add (record_length * i) record_length (drop header_length b))
        ∙ ap (λ (n : ℕ). take n (drop header_length b)) more

    pub written-table_at : written (table_at b) ≡ b
    unfolding written table_at fields_at numbers
    written-table_at =
        ap₂ ◌++◌ header_again (records_again (get_or b 1 0) (omega arith))
        ∙ sym (take-add header_length (record_length * get_or b 1 0) b)
        ∙ take_all (record_start (get_or b 1 0)) b (omega (arith, (read_passed b ok).fits))
