-- The claim: what holds of every table that the normaliser takes. Assumes nothing.
use mathlib.Core.Path.{◌≡◌, sym, ap, subst, ◌∙◌}
use mathlib.Core.Logic.{◌⊎◌}
use mathlib.Core.Bool.{false}
use mathlib.Core.List.{List}
use Prim.Native.Nat.{ℕ, ◌+◌, ◌*◌, ◌≤◌, ◌<◌}
use native.Mathlib.Omega.{arith}
use lib.ListN.{length, get_or}
use Rattle.numbers.specs.Numbers.{places}
use Rattle.lent.specs.Bytes.{numbers, fields_at}
use Rattle.curves.specs.Cost.{entry}
use Rattle.table.specs.declared.Callback.{Callback}
use Rattle.table.specs.declared.Refusal.{Refusal}
use Rattle.table.specs.Values.{callback_at, entries_of}
use Rattle.table.proofs.RefusalLaws.{first_passed}
use Rattle.rules.proofs.Sound.{used_length}
use Rattle.reader.specs.Format.{record_start, table_at, read_fault}
use Rattle.reader.proofs.Accepted.{passed_by, sound_read, record_by}
use Rattle.sheet.specs.Sheet.{sheet_fault, analysis_fault}
use Rattle.sheet.proofs.RefusalLaws.{reader_first}
use Rattle.guarantee.proofs.Guarantee.{guarantee}
use Rattle.closure.specs.Split.{LeastSum}
use Rattle.closure.proofs.ClosureLaws.{closed-least}
use Rattle.normaliser.specs.Normaliser.{normalise_fault, normalised}
use Rattle.normaliser.proofs.NormaliserLaws.{normalised_all}
use Rattle.normaliser.proofs.ByteLaws
use Rattle.normaliser.proofs.Readable.{reads, kept, again}
use Rattle.lower_costs.proofs.LowerCostsLaws.{lower_window, lower_bound, lower_accepted}
use Rattle.normalised.specs.Claim.{Normalises}
use Rattle.normalised.proofs.Lowered.{entries_closed, low, still_within}

module _ (b : List ℕ) (ok : (normalise_fault b).number ≡ 0) where
  least : (i k : ℕ) → i < (table_at b).count → k ≤ (callback_at (table_at b) i).used
      → LeastSum (entries_of (callback_at (table_at b) i)) k (entry (entries_of (callback_at (table_at (normalised b)) i)) k)
  least i k l h =
      let c : Callback = callback_at (table_at b) i in
      subst (λ (x : List ℕ). LeastSum (entries_of c) k (entry (entries_of (callback_at (table_at x) i)) k)) (sym (normalised_all b ok))
      (subst (λ (es : List ℕ). LeastSum (entries_of c) k (entry es k)) (sym (entries_closed b ok i l))
      (closed-least (entries_of c) k (omega (arith, used_length c ((passed_by false b ok).body.records i l).entries))))

  others : (k : ℕ) → ((i : ℕ) → i < (table_at b).count → (k < record_start i + 12) ⊎ (record_start i + 12 + 2 * (callback_at (table_at b) i).used ≤ k))
      → get_or (normalised b) k 0 ≡ get_or b k 0
  unfolding table_at fields_at numbers
  others k h =
      ap (λ (x : List ℕ). get_or x k 0) (normalised_all b ok)
      ∙ ByteLaws.others b ok (get_or b 1 0) (omega arith) k (λ i l.
      subst (λ (c : Callback). (k < record_start i + 12) ⊎ (record_start i + 12 + 2 * c.used ≤ k)) (record_by false b ok i l) (h i l))

  accepts : (sheet_fault (table_at b)).number ≡ 0 → (row : ℕ) → places ≤ row → (analysis_fault (normalised b) row).number ≡ 0
  accepts e row h =
      ap (λ (r : Refusal). r.number) (reader_first (normalised b) row h ∙ first_passed (read_fault (normalised b)) _ (ap (λ (r : Refusal). r.number) (reads b ok)))
      ∙ lower_accepted (table_at b) (table_at (normalised b)) (low b ok) (sound_read false b ok) e

pub normalises : Normalises
normalises b bytes ok =
    record {
      reads = reads b ok;
      least = least b ok;
      others = others b ok;
      kept = kept b bytes;
      again = again b bytes ok;
      costs = (low b ok).costs;
      within = still_within b ok;
      window = lower_window (table_at b) (table_at (normalised b)) (low b ok);
      bounds = lower_bound (table_at b) (table_at (normalised b)) (low b ok) (sound_read false b ok);
      accepts = accepts b ok;
      guaranteed = λ row h e wide short w. guarantee (normalised b) row h (accepts b ok e (length row) wide) short (still_within b ok h _ w);
    }
