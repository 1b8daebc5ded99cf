-- Reading the bytes of a table: its spare bytes, its records in turn, and the reader as a whole. Assumes nothing.
-- numbers_from: where numbers begin. spare_first, spare_second, spare_third: a record's spare bytes. table-whole: all records under their header.
-- read_short, read_head, read_off, read_whole: the reader, test by test. reading_refused, reading-whole: what `read_by` says.
-- read_err, read_ok, read_both: what the code hands back.
use mathlib.Core.Path.{◌≡◌, refl, sym, ap, ap₂, ◌∙◌}
use mathlib.Core.Logic.{◌≢◌}
use mathlib.Core.Bool.{Bool, true, false, not, and-false}
use mathlib.Core.List.{List, [], ◌∷◌}
use Prim.Native.Nat.{ℕ, zero, suc, ◌+◌, ◌-◌, ◌≤◌, ◌<◌}
use native.Mathlib.Omega.{arith}
use native.Mathlib.Decide.{ℕ_discrete}
use lib.Dec.{eqb}
use lib.ListN.{length, get_or}
use borrow.Author.Tests.{eq-eqb, ne_eqb, lt-ltb, le-ltb}
use Rattle.numbers.specs.Numbers.{header_length, short_header, wrong_length}
use Rattle.lent.specs.Bytes.{get, numbers, zeros, fields_at}
use Rattle.table.specs.declared.Refusal.{Refusal}
use Rattle.table.specs.declared.Table.{Table}
use Rattle.std.specs.Prelude.{Result, Ok, Err}
use Rattle.table.specs.Values.{refuse, unless, table_of, blank_table, headless}
use Rattle.table.proofs.RefusalLaws.{first_refused, first_passed, refused, passed}
use Rattle.rules.specs.Rules.{head_fault, body_by}
use Rattle.reader.specs.Format.{Reading, header_clear, spare_at, record_start, records_to, table_at, spares_at, whole_by, read_fault_by, refused_reading, read_by}

-- ---- numbers that begin o bytes behind k

pub numbers_from : (w : ℕ) (b : List ℕ) (k p o n : ℕ) → numbers w b (k + p) o n ≡ numbers w b k (p + o) n
unfolding numbers
numbers_from w b k p o zero = refl
numbers_from w b k p o (suc n) =
    let one : k + p + o ≡ k + (p + o) = omega arith in
    let next : p + (o + w) ≡ p + o + w = omega arith in
    ap₂ ◌∷◌ (ap (get w b) one) (numbers_from w b k p (o + w) n ∙ ap (λ (x : ℕ). numbers w b k x n) next)

-- ---- spare bytes, as runs that end before byte k + 4, k + 12 and k + 32

module _ (b : List ℕ) (k : ℕ) (x : Bool) (first : x ≡ zeros b (k + 3) (k + 4 - (k + 3))) where
  one : zeros b (k + 3) 1 ≡ x
  one = let e : 1 ≡ k + 4 - (k + 3) = omega arith in ap (zeros b (k + 3)) e ∙ sym first

  pub spare_first : x ≡ false → true ≡ spare_at b k
  unfolding spare_at
  spare_first e = rw (one, e)

  module _ (y : Bool) (second : y ≡ zeros b (k + 10) (k + 12 - (k + 10))) where
    two : zeros b (k + 10) 2 ≡ y
    two = let e : 2 ≡ k + 12 - (k + 10) = omega arith in ap (zeros b (k + 10)) e ∙ sym second

    pub spare_second : y ≡ false → true ≡ spare_at b k
    unfolding spare_at
    spare_second e = simp (two, e, and-false)

    pub spare_third : x ≡ true → y ≡ true → (z : Bool) → z ≡ zeros b (k + 28) (k + 32 - (k + 28)) → not z ≡ spare_at b k
    unfolding spare_at
    spare_third e f z third =
        let four : 4 ≡ k + 32 - (k + 28) = omega arith in
        let rest : zeros b (k + 28) 4 ≡ z = ap (zeros b (k + 28)) four ∙ sym third in
        simp (one, e, two, f, rest)

-- ---- the header's numbers beside all records

module _ (b : List ℕ) (i : ℕ) (t : Table) (so : t ≡ headless (records_to b i)) where
  pub table-whole : (q p h z : ℕ) → i ≡ get_or b 1 0 → q ≡ get 2 b 2 → p ≡ get 2 b 4 → h ≡ get 2 b 6 → z ≡ get 2 b 8
      → table_of (get_or b 0 0 ∷ get_or b 1 0 ∷ []) (q ∷ p ∷ h ∷ z ∷ []) t.callbacks ≡ table_at b
  unfolding table_at fields_at numbers
  table-whole q p h z f eq ep eh ez =
      simp (eq, ep, eh, ez) (ap (table_of (get_or b 0 0 ∷ get_or b 1 0 ∷ []) (get 2 b 2 ∷ get 2 b 4 ∷ get 2 b 6 ∷ get 2 b 8 ∷ [])) (ap (λ (u : Table). u.callbacks) so ∙ ap (records_to b) f))

-- ---- the reader, with 24 tested or not

module _ (sums : Bool) (b : List ℕ) where
  pub read_short : length b < header_length → read_fault_by sums b ≡ refuse short_header 0
  unfolding read_fault_by
  read_short h = rw (lt-ltb (length b) header_length h, read_fault_by)

  module _ (long : header_length ≤ length b) (r : Refusal) (head : r ≡ head_fault (get_or b 0 0) (get_or b 1 0)) where
    pub read_head : r.number ≢ 0 → read_fault_by sums b ≡ r
    unfolding read_fault_by
    read_head h = rw (le-ltb (length b) header_length long, read_fault_by, ← head) (first_refused r _ h)

    module _ (ok : r.number ≡ 0) where
      rest : read_fault_by sums b ≡ whole_by sums b
      unfolding read_fault_by
      rest = rw (le-ltb (length b) header_length long, read_fault_by, ← head) (first_passed r _ ok)

      pub read_off : length b ≢ record_start (get_or b 1 0) → read_fault_by sums b ≡ refuse wrong_length 0
      unfolding whole_by
      read_off h = rest ∙ rw (ne_eqb (length b) (record_start (get_or b 1 0)) h)

      pub read_whole : length b ≡ record_start (get_or b 1 0) → (z : Bool) → z ≡ header_clear b → (s : ℕ) → s ≡ spares_at b → (t : Table) → t ≡ table_at b
          → read_fault_by sums b ≡ body_by sums (not z) s t
      unfolding whole_by
      read_whole e z clear s spares t values = rest ∙ rw (clear, spares, values, eq-eqb (length b) (record_start (get_or b 1 0)) e)

  module _ (r : Refusal) (so : read_fault_by sums b ≡ r) where
    by_number : read_by sums b ≡ elim (eqb r.number 0) as (λ _. Reading) [ true ↦ record { refusal = r; table = table_at b } | false ↦ refused_reading r ]
    unfolding read_by
    by_number = ap (λ (x : Refusal). elim (eqb x.number 0) as (λ _. Reading) [ true ↦ record { refusal = x; table = table_at b } | false ↦ refused_reading x ]) so

    pub reading_refused : r.number ≢ 0 → read_by sums b ≡ refused_reading r
    reading_refused h = by_number ∙ ap (λ (x : Bool). elim x as (λ _. Reading) [ true ↦ record { refusal = r; table = table_at b } | false ↦ refused_reading r ]) (ne_eqb r.number 0 h)

    pub reading-whole : r.number ≡ 0 → read_by sums b ≡ record { refusal = r; table = table_at b }
    reading-whole e = by_number ∙ ap (λ (x : Bool). elim x as (λ _. Reading) [ true ↦ record { refusal = r; table = table_at b } | false ↦ refused_reading r ]) (eq-eqb r.number 0 e)

    -- as the code hands it back
    pub read_err : r.number ≢ 0 → unless (read_fault_by sums b) (table_at b) ≡ Err r
    read_err h = ap (λ (x : Refusal). unless x (table_at b)) so ∙ refused r (table_at b) h

    pub read_ok : r.number ≡ 0 → unless (read_fault_by sums b) (table_at b) ≡ Ok (table_at b)
    read_ok e = ap (λ (x : Refusal). unless x (table_at b)) so ∙ passed r (table_at b) e

  -- and what `read_by` has side by side is the same
  beside : unless (read_fault_by sums b) (table_at b) ≡ unless (read_by sums b).refusal (read_by sums b).table
  beside = go (ℕ_discrete (read_fault_by sums b).number 0)
    where
      go : Dec ((read_fault_by sums b).number ≡ 0) → unless (read_fault_by sums b) (table_at b) ≡ unless (read_by sums b).refusal (read_by sums b).table
      go (yes e) = sym (ap (λ (x : Reading). unless x.refusal x.table) (reading-whole (read_fault_by sums b) refl e))
      go (no h) =
          refused (read_fault_by sums b) (table_at b) h
          ∙ sym (ap (λ (x : Reading). unless x.refusal x.table) (reading_refused (read_fault_by sums b) refl h) ∙ refused (read_fault_by sums b) blank_table h)

  pub read_both : {r : Result Table Refusal} → r ≡ unless (read_fault_by sums b) (table_at b)
      → (r ≡ unless (read_fault_by sums b) (table_at b)) × (r ≡ unless (read_by sums b).refusal (read_by sums b).table)
  read_both e = (e, e ∙ beside)
