-- The two round trips (document 02, U4). Assumes nothing.
-- written_read, written-length: the bytes of a table without faults. reads-back: what is written is read back to the same values.
-- described-reads-back: so is a described table.
-- writes-back: a table that the reader accepts, read and written, is the same byte by byte.
use mathlib.Core.Path.{◌≡◌, refl, sym, ap, ap₂, ◌∙◌}
use mathlib.Core.Bool.{true}
use mathlib.Core.List.{List, [], append-nil}
use Prim.Native.Nat.{ℕ, ◌+◌, ◌≤◌, ◌<◌}
use native.Mathlib.Omega.{arith}
use lib.ListN.{length, get_or, take, drop}
use lib.Seq.{take_at}
use Rattle.numbers.specs.Numbers.{places, entry_places}
use Rattle.lent.specs.Bytes.{numbers, fields_at}
use Rattle.lent.specs.Over.{over}
use Rattle.table.specs.declared.Callback.{Callback}
use Rattle.table.specs.declared.Refusal.{Refusal}
use Rattle.table.specs.declared.Table.{Table}
use Rattle.table.specs.Values.{accepted, callback_at}
use Rattle.table.proofs.PlacedLaws.{placed-length, placed_in, placed_out}
use Rattle.rules.specs.Rules.{record_fault, fault_of}
use Rattle.rules.proofs.Passed.{fault_passed}
use Rattle.rules.proofs.Alike.{Alike, fault_alike}
use Rattle.reader.specs.Format.{record_start, read_fault, read_of, table_at}
use Rattle.reader.specs.Written.{written}
use Rattle.reader.proofs.FormatLaws.{reading-whole}
use Rattle.reader.proofs.Accepted.{read_passed, read_accepted, read_table}
use Rattle.reader.proofs.WrittenLaws.{Writable, length-written, table_at-written, read_fault-written, written-table_at}
use Rattle.writer.specs.declared.Written.{Written}
use Rattle.writer.specs.Writer.{first_records, write_of, buffer_after}
use Rattle.writer.specs.Described.{described_record, described}
use Rattle.writer.proofs.WriterLaws.{write_fits, write_passed, writing_done, writing_passed}
use Rattle.writer.proofs.AlikeLaws.{written_alike}
use Rattle.writer.proofs.DescribedLaws.{described_slot}

over_front : (b vs : List ℕ) (n : ℕ) → length vs ≡ n → take n (over b 0 vs) ≡ vs
unfolding over
over_front b vs n e = take_at vs (drop (0 + length vs) b) n e

-- ---- written, then read

-- the table with blank places beyond n is alike, and the reader can have read it
module _ (t : Table) (eight : (i : ℕ) → i < t.count → length (callback_at t i).entries ≡ entry_places) (ok : (fault_of t).number ≡ 0) where
  abbrev u : Table
  u = first_records t

  few : t.count ≤ places
  few = (fault_passed t ok).0.few

  slot : (i : ℕ) → i < t.count → callback_at u i ≡ callback_at t i
  slot i l = placed_in (callback_at t) _ i (omega (arith, few)) (omega (arith, l, few))

  alike : Alike t u
  alike =
      record {
        edition = refl;
        count = refl;
        ticks = refl;
        judged = λ i spare l. ap (λ (c : Callback). record_fault t.count c spare) (sym (slot i l));
        same = λ i spare l p. sym (slot i l);
      }

  writable : Writable u
  writable =
      record {
        faultless = ap (λ (r : Refusal). r.number) (sym (fault_alike t u refl (λ p. alike))) ∙ ok;
        places-length = placed-length (callback_at t) _;
        entries_length = λ i l. ap (λ (c : Callback). length c.entries) (slot i l) ∙ eight i l;
        beyond = placed_out (callback_at t) t.count;
      }

  same : written t ≡ written u
  same = written_alike t u alike ok

  -- the written bytes alone
  pub written_read : read_of (written t) ≡ record { refusal = accepted; table = u }
  written_read =
      ap read_of same
      ∙ reading-whole true (written u) accepted (read_fault-written u writable) refl
      ∙ ap (λ (x : Table). record { refusal = accepted; table = x }) (ap table_at (sym (append-nil (written u))) ∙ table_at-written u writable [])

  pub written-length : length (written t) ≡ record_start t.count
  written-length = ap length same ∙ length-written u writable

module _ (t : Table) (b : List ℕ) (eight : (i : ℕ) → i < t.count → length (callback_at t i).entries ≡ entry_places) (done : (write_of t (length b)).number ≡ 0) where
  pub reads-back : read_of (take (write_of t (length b)).length (buffer_after t b)) ≡ record { refusal = accepted; table = first_records t }
  reads-back =
      let e = writing_passed t b done in
      let w = writing_done t b _ refl e in
      let ok = (write_passed t (length b) e).0 in
      ap₂ (λ (n : ℕ) (x : List ℕ). read_of (take n x)) (ap (λ (x : Written). x.length) w.0) w.1
      ∙ ap read_of (over_front b (written t) (record_start t.count) (written-length t eight ok))
      ∙ written_read t eight ok

-- a described table's records have eight entries
module _ (bytes ticks ns b : List ℕ) (done : (write_of (described bytes ticks ns) (length b)).number ≡ 0) where
  abbrev d : Table
  d = described bytes ticks ns

  entries : (i : ℕ) → i < d.count → length (callback_at d i).entries ≡ entry_places
  unfolding described_record fields_at numbers
  entries i l =
      let few = (fault_passed d (write_passed d (length b) (writing_passed d b done)).0).0.few in
      ap (λ (c : Callback). length c.entries) (described_slot bytes ticks ns i (omega (arith, few)))

  pub described-reads-back : read_of (take (write_of d (length b)).length (buffer_after d b)) ≡ record { refusal = accepted; table = first_records d }
  described-reads-back = reads-back d b entries done

-- ---- read, then written

module _ (b c : List ℕ) (bytes : (i : ℕ) → get_or b i 0 < 256) (ok : (read_fault b).number ≡ 0) (room : length b ≤ length c) where
  size : length b ≡ record_start (table_at b).count
  unfolding table_at fields_at numbers
  size = (read_passed b ok).fits

  pub writes-back : (write_of (read_of b).table (length c) ≡ record { length = length b; number = 0; index = 0 }) × (buffer_after (read_of b).table c ≡ over c 0 b)
  writes-back =
      let table = read_table b ok in
      let w = writing_done (table_at b) c accepted (write_fits (table_at b) (length c) _ (sym (read_accepted b ok)) refl (omega (arith, size, room))) refl in (
        ap (λ (t : Table). write_of t (length c)) table ∙ w.0 ∙ ap (λ (n : ℕ). record { length = n; number = 0; index = 0 }) (sym size),
        ap (λ (t : Table). buffer_after t c) table ∙ w.1 ∙ ap (over c 0) (written-table_at b ok bytes),
      )
