-- The bytes of a table that is normalised, record by record. Assumes nothing.
-- said_normalise: what C gets. Taken, taken: what is known of bytes that the reader has taken by all rules but 24.
-- closed_front: the entries of a record that are replaced, out of eight places.
-- closed_size, closed_more: the bytes stay as many; one record more, as a loop writes it.
-- normalised-refused, normalised_all: what the normaliser makes of bytes that are refused, and of others.
use mathlib.Core.Path.{◌≡◌, refl, sym, ap, subst, ◌∙◌}
use mathlib.Core.Logic.{◌≢◌}
use mathlib.Core.Bool.{false}
use mathlib.Core.List.{List, ◌++◌}
use Prim.Native.Nat.{ℕ, zero, suc, ◌+◌, ◌*◌, ◌≤◌, ◌<◌}
use native.Mathlib.Numerals.{add-one}
use native.Mathlib.Omega.{arith}
use lib.ListN.{length, get_or, take, drop}
use lib.Seq.{take_at, length-take-le}
use borrow.Author.Tests.{eq-eqb, ne_eqb}
use Rattle.numbers.specs.Numbers.{places, entry_places}
use Rattle.lent.specs.Bytes.{numbers, run, fields_at}
use Rattle.lent.specs.Over.{over}
use Rattle.lent.proofs.Replace.{over-length}
use Rattle.lent.proofs.Numbers.{length_run}
use Rattle.table.specs.declared.Callback.{Callback}
use Rattle.table.specs.declared.Table.{Table}
use Rattle.table.specs.Values.{accepted, unless, entries_of, callback_at}
use Rattle.std.specs.Prelude.{Ok}
use Rattle.table.proofs.RefusalLaws.{ok_passed}
use Rattle.reader.specs.Format.{record_at, record_start, table_at, read_fault_by}
use Rattle.table.specs.Said.{refusal_in}
use Rattle.reader.proofs.Accepted.{said_by, zero_by, passed_by, sound_read, record_by}
use Rattle.closure.specs.Closure.{closed}
use Rattle.closure.proofs.ClosureLaws.{closed-length}
use Rattle.normaliser.specs.Normaliser.{normalise_fault, closed_to, normalised}

-- ---- what was read

pub record Taken (b : List ℕ) (t : Table) : Type 0 where
  pub ok : (normalise_fault b).number ≡ 0
  pub refusal : accepted ≡ normalise_fault b
  pub count : t.count ≡ get_or b 1 0
  pub fits : length b ≡ record_start (get_or b 1 0)
  pub few : get_or b 1 0 ≤ places
  pub slots : (i : ℕ) → i < get_or b 1 0 → callback_at t i ≡ record_at b (record_start i)
  pub used : (i : ℕ) → i < get_or b 1 0 → (record_at b (record_start i)).used ≤ entry_places

pub taken : (b : List ℕ) (t : Table) → unless (read_fault_by false b) (table_at b) ≡ Ok t → Taken b t
unfolding table_at fields_at numbers
taken b t e =
    record {
      ok = ok;
      refusal = sym (zero_by false b (passed_by false b ok));
      count = ap (λ (t : Table). t.count) same;
      fits = (passed_by false b ok).fits;
      few = (passed_by false b ok).head.few;
      slots = λ i l. ap (λ (t : Table). callback_at t i) same ∙ record_by false b ok i l;
      used = λ i l. subst (λ (c : Callback). c.used ≤ entry_places) (record_by false b ok i l) ((sound_read false b ok).entries_few i l);
    }
  where
    ok : (normalise_fault b).number ≡ 0
    ok = (ok_passed _ _ _ e).1

    same : t ≡ table_at b
    same = (ok_passed _ _ _ e).0

-- what C gets of the normaliser's result
pub said_normalise : (b : List ℕ) → refusal_in (unless (normalise_fault b) (tt {0})) ≡ normalise_fault b
said_normalise b = said_by false b (tt {0})

-- ---- what is written

-- the first m of the places
pub closed_front : (es : List ℕ) (m : ℕ) → m ≤ length es → take m (closed (take m es) ++ drop m es) ≡ closed (take m es)
closed_front es m h = take_at (closed (take m es)) (drop m es) m (closed-length (take m es) ∙ length-take-le m es h)

module _ (b : List ℕ) where
  -- the record of a slot
  abbrev pub slot : ℕ → Callback
  slot i = record_at b (record_start i)

  -- the bytes of its entries
  pub length_entries : (i : ℕ) → length (run 2 (closed (entries_of (slot i)))) ≡ 2 * length (entries_of (slot i))
  length_entries i = length_run 2 (closed (entries_of (slot i))) ∙ ap (λ (n : ℕ). 2 * n) (closed-length (entries_of (slot i)))

  -- where each of them ends within its record, the bytes stay as many
  pub closed_size : (n : ℕ) → ((i : ℕ) → i < n → length (entries_of (slot i)) ≤ 8) → record_start n ≤ length b → length (closed_to b n) ≡ length b
  unfolding closed_to
  closed_size zero few h = refl
  closed_size (suc n) few h =
      let before = closed_size n (λ i l. few i (omega arith)) (omega arith) in
      over-length (closed_to b n) (record_start n + 12) (run 2 (closed (entries_of (slot n)))) (omega (arith, before, length_entries n, few n (omega arith))) ∙ before

  -- one record more
  pub closed_more : (i : ℕ) (c : Callback) → c ≡ slot i → over (closed_to b i) (record_start i + 12) (run 2 (closed (entries_of c))) ≡ closed_to b (i + 1)
  unfolding closed_to
  closed_more i c e =
      ap (λ (x : Callback). over (closed_to b i) (record_start i + 12) (run 2 (closed (entries_of x)))) e
      ∙ ap (closed_to b) (sym (add-one i))

  pub normalised-refused : (normalise_fault b).number ≢ 0 → normalised b ≡ b
  unfolding normalised
  normalised-refused h = rw (ne_eqb (normalise_fault b).number 0 h, normalised)

  pub normalised_all : (normalise_fault b).number ≡ 0 → normalised b ≡ closed_to b (get_or b 1 0)
  unfolding normalised
  normalised_all e = rw (eq-eqb (normalise_fault b).number 0 e, normalised)
