-- The bytes of a table that is normalised, as the reader sees them. Assumes nothing.
-- others: every byte but those of the m entries of each record is as it was.
-- length-closed, count-closed: so are length and count. slot_closed: each record is that of before, with its entries replaced.
use mathlib.Core.Path.{◌≡◌, refl, sym, ap, ap₂, subst, ◌∙◌}
use mathlib.Core.Logic.{◌⊎◌, inl, inr}
use mathlib.Core.Bool.{false}
use mathlib.Core.List.{List, ◌++◌}
use Prim.Native.Nat.{ℕ, zero, suc, ◌+◌, ◌*◌, ◌-◌, ◌≤◌, ◌<◌}
use native.Mathlib.Omega.{arith}
use lib.ListN.{length, get_or, take, drop}
use lib.Seq.{drop_at, length-take-le}
use Rattle.numbers.specs.Numbers.{places, entry_places}
use Rattle.ranges.proofs.SumLaws.{le_or_lt}
use Rattle.lent.specs.Bytes.{numbers, run, fields_at}
use Rattle.lent.specs.Over.{over}
use Rattle.lent.proofs.Replace.{over_before, over_behind}
use Rattle.lent.proofs.Numbers.{numbers-run, numbers-same, numbers-add, length-numbers}
use Rattle.lent.proofs.Fields.{below_all}
use Rattle.table.specs.declared.Callback.{Callback}
use Rattle.table.specs.Values.{callback_of, entries_of}
use Rattle.rules.specs.Rules.{entries_fault}
use Rattle.rules.proofs.Sound.{cost_count, used_length, used_le}
use Rattle.reader.specs.Format.{record_at, record_start, table_at}
use Rattle.reader.proofs.Accepted.{passed_by, record_by}
use Rattle.closure.specs.Closure.{closed}
use Rattle.closure.proofs.ClosureLaws.{closed-length, closed_under}
use Rattle.normaliser.specs.Normaliser.{normalise_fault, closed_to}
use Rattle.normaliser.proofs.NormaliserLaws.{slot, length_entries, closed_size}
use Rattle.normaliser.proofs.RecordLaws.{replaced}

module _ (b : List ℕ) (ok : (normalise_fault b).number ≡ 0) where
  abbrev n : ℕ
  n = get_or b 1 0

  -- ---- what was read

  pub fits : length b ≡ record_start n
  fits = (passed_by false b ok).fits

  pub few : n ≤ places
  few = (passed_by false b ok).head.few

  pub ten : (i : ℕ) → i < n → entries_fault (slot b i) ≡ false
  unfolding table_at fields_at numbers
  ten i l = subst (λ (c : Callback). entries_fault c ≡ false) (record_by false b ok i l) ((passed_by false b ok).body.records i l).entries

  -- how many entries slot i uses
  abbrev pub m : ℕ → ℕ
  m i = (slot b i).used

  size : (i : ℕ) → i < n → length (entries_of (slot b i)) ≡ m i
  size i l = used_length (slot b i) (ten i l)

  pub small : (i : ℕ) → i < n → m i ≤ entry_places
  small i l = (cost_count (slot b i) (ten i l)).1

  pub length-closed : (i : ℕ) → i ≤ n → length (closed_to b i) ≡ length b
  length-closed i h = closed_size b i (λ j l. omega (arith, size j (omega arith), small j (omega arith))) (omega (arith, fits))

  -- ---- bytes that are not replaced

  -- the entries of slot i end within the bytes
  pub inside : (i : ℕ) → i < n → record_start i + 12 + length (run 2 (closed (entries_of (slot b i)))) ≤ length (closed_to b i)
  inside i l = omega (arith, length_entries b i, size i l, small i l, length-closed i (omega arith), fits)

  -- byte k is none of the entries of the first i records
  abbrev pub Apart : ℕ → ℕ → Type 0
  Apart i k = (j : ℕ) → j < i → (k < record_start j + 12) ⊎ (record_start j + 12 + 2 * m j ≤ k)

  pub others : (i : ℕ) → i ≤ n → (k : ℕ) → Apart i k → get_or (closed_to b i) k 0 ≡ get_or b k 0
  unfolding closed_to
  others zero h k a = refl
  others (suc i) h k a = go (a i (omega arith)) ∙ others i (omega arith) k (λ j l. a j (omega arith))
    where
      go : (k < record_start i + 12) ⊎ (record_start i + 12 + 2 * m i ≤ k)
          → get_or (over (closed_to b i) (record_start i + 12) (run 2 (closed (entries_of (slot b i))))) k 0 ≡ get_or (closed_to b i) k 0
      go (inl l) = over_before (closed_to b i) (record_start i + 12) _ (inside i h) k l
      go (inr l) = over_behind (closed_to b i) (record_start i + 12) _ (inside i h) k (omega (arith, length_entries b i, size i h))

  -- a byte before the entries of slot i stays as later records are written
  later : (i q : ℕ) → i + q ≤ n → (k : ℕ) → k < record_start i + 12 → get_or (closed_to b (i + q)) k 0 ≡ get_or (closed_to b i) k 0
  unfolding closed_to
  later i zero h k l = let e : i + 0 ≡ i = omega arith in ap (λ (j : ℕ). get_or (closed_to b j) k 0) e
  later i (suc q) h k l =
      let e : i + suc q ≡ suc (i + q) = omega arith in
      ap (λ (j : ℕ). get_or (closed_to b j) k 0) e
      ∙ over_before (closed_to b (i + q)) (record_start (i + q) + 12) _ (inside (i + q) (omega arith)) k (omega arith)
      ∙ later i q (omega arith) k l

  -- the header, and the bytes of a record that are none of its entries
  pub apart_header : (k : ℕ) → k < 16 → Apart n k
  apart_header k l j h = inl (omega arith)

  pub apart_record : (i d : ℕ) → i < n → (d < 12) ⊎ ((12 + 2 * m i ≤ d) × (d < 32)) → Apart n (record_start i + d)
  apart_record i d l w j h = go (le_or_lt j i) (le_or_lt i j) w
    where
      go : (j ≤ i) ⊎ (i < j) → (i ≤ j) ⊎ (j < i) → (d < 12) ⊎ ((12 + 2 * m i ≤ d) × (d < 32)) → (record_start i + d < record_start j + 12) ⊎ (record_start j + 12 + 2 * m j ≤ record_start i + d)
      go (inr p) q (inl x) = inl (omega arith)
      go (inr p) q (inr x) = inl (omega (arith, x.1))
      go (inl p) (inr q) x = inr (omega (arith, small j h))
      go (inl p) (inl q) (inl x) = let e : i ≡ j = omega arith in inl (omega arith)
      go (inl p) (inl q) (inr x) = (let e : i ≡ j = omega arith in inr (omega (arith, x.0, ap m e)))

  abbrev new : List ℕ
  new = closed_to b n

  pub header_byte : (k : ℕ) → k < 16 → get_or new k 0 ≡ get_or b k 0
  header_byte k l = others n (omega arith) k (apart_header k l)

  pub record_byte : (i d : ℕ) → i < n → (d < 12) ⊎ ((12 + 2 * m i ≤ d) × (d < 32)) → get_or new (record_start i + d) 0 ≡ get_or b (record_start i + d) 0
  record_byte i d l w = others n (omega arith) (record_start i + d) (apart_record i d l w)

  -- ---- the records

  module _ (i : ℕ) (l : i < n) where
    -- numbers of a record that are none of its entries
    kept : (w o k : ℕ) → ((d : ℕ) → o ≤ d → d < o + w * k → (d < 12) ⊎ ((12 + 2 * m i ≤ d) × (d < 32))) → numbers w new (record_start i) o k ≡ numbers w b (record_start i) o k
    kept w o k h = numbers-same w new b (record_start i) o k (λ j p q. byte j p q)
      where
        byte : (j : ℕ) → record_start i + o ≤ j → j < record_start i + o + w * k → get_or new j 0 ≡ get_or b j 0
        byte j p q =
            let e : record_start i + (j - record_start i) ≡ j = omega arith in
            subst (λ (x : ℕ). get_or new x 0 ≡ get_or b x 0) e (record_byte i (j - record_start i) l (h (j - record_start i) (omega arith) (omega arith)))

    -- the entries: those written, with which nothing later interferes
    written : numbers 2 new (record_start i) 12 (m i) ≡ closed (entries_of (slot b i))
    unfolding closed_to over
    written =
        numbers-same 2 new (closed_to b (suc i)) (record_start i) 12 (m i) (λ j p q. stays j (omega (arith, small i l)))
        ∙ ap (numbers 2 (closed_to b (suc i)) (record_start i) 12) (sym (closed-length (entries_of (slot b i)) ∙ size i l))
        ∙ numbers-run 2 (take (record_start i + 12) (closed_to b i)) _ (closed (entries_of (slot b i))) (record_start i) 12
        (length-take-le (record_start i + 12) (closed_to b i) (omega (arith, inside i l))) (below_all 65536 (closed (entries_of (slot b i))) bounded)
      where
        stays : (j : ℕ) → j < record_start (suc i) + 12 → get_or new j 0 ≡ get_or (closed_to b (suc i)) j 0
        stays j h =
            let e : suc i + (n - suc i) ≡ n = omega arith in
            subst (λ (x : ℕ). get_or (closed_to b x) j 0 ≡ get_or (closed_to b (suc i)) j 0) e (later (suc i) (n - suc i) (omega arith) j h)

        bounded : (k : ℕ) → k < length (closed (entries_of (slot b i))) → get_or (closed (entries_of (slot b i))) k 0 < 65536
        bounded k h = omega (arith, closed_under (entries_of (slot b i)) (suc k), used_le (slot b i) (ten i l) (suc k))

    -- the eight places
    all_eight : numbers 2 new (record_start i) 12 8 ≡ closed (entries_of (slot b i)) ++ drop (m i) (numbers 2 b (record_start i) 12 8)
    all_eight =
        eight new
        ∙ ap₂ ◌++◌ written (kept 2 (12 + 2 * m i) (8 - m i) (λ d p q. inr (p, omega (arith, small i l))))
        ∙ ap (λ (x : List ℕ). closed (entries_of (slot b i)) ++ x) (sym (ap (drop (m i)) (eight b) ∙ drop_at (numbers 2 b (record_start i) 12 (m i)) _ (m i) (length-numbers 2 b (record_start i) 12 (m i))))
      where
        eight : (x : List ℕ) → numbers 2 x (record_start i) 12 8 ≡ numbers 2 x (record_start i) 12 (m i) ++ numbers 2 x (record_start i) (12 + 2 * m i) (8 - m i)
        eight x =
            let e : 8 ≡ m i + (8 - m i) = omega (arith, small i l) in
            ap (numbers 2 x (record_start i) 12) e ∙ numbers-add 2 x (record_start i) 12 (m i) (8 - m i)

    pub slot_closed : record_at new (record_start i) ≡ replaced (slot b i)
    unfolding record_at fields_at
    slot_closed =
        ap₂ (λ (x y : List ℕ). callback_of x y (numbers 2 new (record_start i) 12 8)) (kept 1 0 3 (λ d p q. inl (omega arith))) (kept 2 4 3 (λ d p q. inl (omega arith)))
        ∙ ap (callback_of (numbers 1 b (record_start i) 0 3) (numbers 2 b (record_start i) 4 3)) all_eight
