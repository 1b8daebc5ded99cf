-- What an accepted reading says of the bytes and of the table. Assumes nothing.
-- read_refused, reading_is: a refused reading, and the refusal that a reading carries.
-- ReadPassed, read_passed: what bytes with read_fault number 0 have passed. read_spare: each record's spare bytes.
-- said_by: what C gets of the result. refusal_by, ReadPassedBy, passed_by, zero_by, table_by, sound_read, record_by: the same of bytes that were read with 24 tested or not.
-- read_accepted, read_sound, read_table: their table has no fault, is sound, and is what is read. read_record, read_blank: its places.
use mathlib.Core.Path.{◌≡◌, refl, sym, ap, ◌∙◌}
use mathlib.Core.Logic.{◌⊎◌, inl, inr, ◌≢◌}
use mathlib.Core.Bool.{Bool, true, false, not}
use mathlib.Core.List.{List}
use Prim.Native.Nat.{ℕ, ◌≤◌, ◌<◌}
use native.Mathlib.Decide.{ℕ_discrete}
use native.Mathlib.Omega.{arith}
use lib.Dec.{eqb}
use lib.ListN.{length, get_or}
use borrow.Author.Tests.{not-false, eqb-true, le-ltb, eq-eqb}
use Rattle.ranges.proofs.SumLaws.{le_or_lt}
use Rattle.numbers.specs.Numbers.{places, header_length, wrong_length}
use Rattle.masks.proofs.Gather.{gather_in}
use Rattle.lent.specs.Bytes.{numbers, fields_at}
use Rattle.table.specs.declared.Refusal.{Refusal}
use Rattle.table.specs.Said.{refusal_in}
use Rattle.table.proofs.SaidLaws.{refusal_unless}
use Rattle.table.specs.Values.{accepted, unless, blank, callback_at}
use Rattle.table.proofs.RefusalLaws.{first_passed, both_passed}
use Rattle.table.proofs.PlacedLaws.{placed_in, placed_out}
use Rattle.rules.specs.Rules.{head_fault, fault_of}
use Rattle.rules.specs.Parts.{Sound}
use Rattle.rules.proofs.Passed.{test_zero, HeadPassed, head_passed, BodyPassedBy, body_passed, body_accepted, fault_accepted}
use Rattle.rules.proofs.Sound.{sound_by}
use Rattle.reader.specs.Format.{Reading, header_clear, record_at, spare_at, record_start, table_at, spares_at, whole_by, read_fault, read_fault_by, refused_reading, read_of, read_by}
use Rattle.reader.proofs.FormatLaws.{read_short, reading_refused, reading-whole}

-- ---- the reading

-- the refusal that it carries, with 24 tested or not
pub refusal_by : (sums : Bool) (b : List ℕ) → (read_by sums b).refusal ≡ read_fault_by sums b
refusal_by sums b = go (ℕ_discrete (read_fault_by sums b).number 0)
  where
    go : Dec ((read_fault_by sums b).number ≡ 0) → (read_by sums b).refusal ≡ read_fault_by sums b
    go (yes e) = ap (λ (r : Reading). r.refusal) (reading-whole sums b (read_fault_by sums b) refl e)
    go (no h) = ap (λ (r : Reading). r.refusal) (reading_refused sums b (read_fault_by sums b) refl h)

module _ (b : List ℕ) where
  pub read_refused : (read_fault b).number ≢ 0 → read_of b ≡ refused_reading (read_fault b)
  read_refused h = reading_refused true b (read_fault b) refl h

  pub reading_is : (read_of b).refusal ≡ read_fault b
  reading_is = refusal_by true b

-- ---- what has passed, with 24 tested or not

module _ (sums : Bool) (b : List ℕ) where
  pub record ReadPassedBy : Type 0 where
    pub long : header_length ≤ length b
    pub head_zero : (head_fault (get_or b 0 0) (get_or b 1 0)).number ≡ 0
    pub head : HeadPassed (get_or b 0 0) (get_or b 1 0)
    pub fits : length b ≡ record_start (get_or b 1 0)
    pub body : BodyPassedBy sums (not (header_clear b)) (spares_at b) (table_at b)

  -- what has passed is accepted, with index 0 too
  pub zero_by : ReadPassedBy → read_fault_by sums b ≡ accepted
  unfolding read_fault_by whole_by
  zero_by p =
      rw (le-ltb (length b) header_length p.long, read_fault_by)
      (first_passed _ _ p.head_zero ∙ rw (eq-eqb (length b) (record_start (get_or b 1 0)) p.fits) (body_accepted sums (not (header_clear b)) (spares_at b) (table_at b) p.body))

  module _ (ok : (read_fault_by sums b).number ≡ 0) where
    pub passed_by : ReadPassedBy
    unfolding read_fault_by whole_by
    passed_by =
        let two = both_passed (head_fault (get_or b 0 0) (get_or b 1 0)) (whole_by sums b) (rw (le-ltb (length b) header_length long, read_fault_by) at ok) in
        let three = test_zero (not (eqb (length b) (record_start (get_or b 1 0)))) wrong_length 0 _ (λ z. omega arith) two.1 in
        record {
          long = long;
          head_zero = two.0;
          head = head_passed (get_or b 0 0) (get_or b 1 0) two.0;
          fits = eqb-true (length b) (record_start (get_or b 1 0)) (not-false _ three.0);
          body = body_passed sums (not (header_clear b)) (spares_at b) (table_at b) three.1;
        }
      where
        long : header_length ≤ length b
        long = go (le_or_lt header_length (length b))
          where
            go : (header_length ≤ length b) ⊎ (length b < header_length) → header_length ≤ length b
            go (inl h) = h
            go (inr h) = absurd (omega (arith, ap (λ (r : Refusal). r.number) (read_short sums b h)))

    pub table_by : (read_by sums b).table ≡ table_at b
    table_by = ap (λ (r : Reading). r.table) (reading-whole sums b accepted (zero_by passed_by) refl)

    pub sound_read : Sound (table_at b)
    unfolding table_at fields_at numbers
    sound_read = sound_by sums (not (header_clear b)) (spares_at b) (table_at b) passed_by.head passed_by.body

    -- the place of each slot below count
    pub record_by : (i : ℕ) → i < get_or b 1 0 → callback_at (table_at b) i ≡ record_at b (record_start i)
    unfolding table_at
    record_by i l = placed_in (λ j. record_at b (record_start j)) (get_or b 1 0) i passed_by.head.few l

-- ---- by all rules

abbrev pub ReadPassed : List ℕ → Type 0
ReadPassed = ReadPassedBy true

-- what C gets of a result that stands on a reading
pub said_by : {A : Type 0} (sums : Bool) (b : List ℕ) (x : A) → refusal_in (unless (read_fault_by sums b) x) ≡ read_fault_by sums b
said_by sums b x = refusal_unless (read_fault_by sums b) x (λ e. zero_by sums b (passed_by sums b e))

module _ (b : List ℕ) (ok : (read_fault b).number ≡ 0) where
  pub read_passed : ReadPassed b
  read_passed = passed_by true b ok

  -- a record's spare bytes
  pub read_spare : (i : ℕ) → i < get_or b 1 0 → spare_at b (record_start i) ≡ false
  unfolding table_at fields_at numbers spares_at
  read_spare i l = sym (gather_in (λ i. spare_at b (record_start i)) (get_or b 1 0) i l) ∙ (read_passed.body.records i l).clear

  pub read_table : (read_of b).table ≡ table_at b
  read_table = table_by true b ok

  pub read_accepted : fault_of (table_at b) ≡ accepted
  unfolding table_at fields_at numbers
  read_accepted = fault_accepted (table_at b) (not (header_clear b)) (spares_at b) read_passed.head_zero read_passed.body

  pub read_sound : Sound (table_at b)
  read_sound = sound_read true b ok

  -- the place of each slot below count, and those beyond it
  pub read_record : (i : ℕ) → i < get_or b 1 0 → callback_at (table_at b) i ≡ record_at b (record_start i)
  read_record = record_by true b ok

  pub read_blank : (i : ℕ) → get_or b 1 0 ≤ i → i < places → callback_at (table_at b) i ≡ blank
  unfolding table_at
  read_blank i l h = placed_out (λ j. record_at b (record_start j)) (get_or b 1 0) i l h
