-- Packing and unpacking a state are inverse to each other. Assumes nothing.
-- Laid, laid, laid_out_lem: the parts of laid_out. table_faultless: the table of laid out bytes is one that the reader accepts.
-- numbers-unpacked, pack_unpack: laid out bytes, read and written back. packed-over: to pack a state over bytes that hold its table is to
-- write its fields. cache_small, fit_tail, unpacked-packed, laid_packed: a state without faults, written and read back. packed-fresh: the bytes of a fresh state.
-- pack_parts, unpack_parts: the writes of pack_tail and the reads of unpack_with.
use mathlib.Core.Path.{◌≡◌, refl, sym, ap, ◌∙◌, ap₂}
use mathlib.Core.Bool.{true, false}
use mathlib.Core.Logic.{◌⊎◌, inl, inr}
use mathlib.Core.List.{List, [], ◌++◌, append_assoc, append-nil}
use Prim.Native.Nat.{ℕ, zero, suc, ◌≤◌, ◌<◌, ◌+◌, ◌-◌}
use native.Mathlib.Omega.{arith}
use lib.Dec.{eqb}
use lib.ListN.{length, get_or, take, drop, replicate, length-take, length-drop, take-append-drop, drop_of_length-le, get_or-eq_default, get_or-append, get_or-replicate, length-append, length-replicate, replicate-append-replicate}
use lib.Seq.{take-add, length-take-le, get_or-take, take_all, take_at}
use borrow.Author.Tests.{eqb-true, eq-eqb}
use Rattle.ranges.proofs.SumLaws.{le_or_lt}
use Rattle.ranges.proofs.EveryLaws.{and_holds}
use Rattle.masks.proofs.Gather.{mask_within}
use Rattle.lent.specs.Bytes.{numbers, zeros, size_of, fields_at, field_bytes, get, run, le}
use Rattle.lent.specs.Over.{over}
use Rattle.lent.specs.Parts.{Fit}
use Rattle.lent.proofs.Numbers.{past}
use Rattle.lent.proofs.Fields.{below_all, below_zeros, length_fields, fields_again, over_fields, over_fields_lem, fields_back, fit_sized}
use Rattle.lent.proofs.Spare.{zeros-numbers, numbers-zeros, zeros_all, zeros_part}
use Rattle.table.specs.declared.Refusal.{Refusal}
use Rattle.table.specs.declared.Table.{Table}
use Rattle.numbers.specs.Numbers.{places}
use Rattle.rules.proofs.Sound.{sound}
use Rattle.reader.specs.Format.{read_fault, table_at, record_start, field_of}
use Rattle.reader.specs.Written.{written}
use Rattle.reader.proofs.Accepted.{read_passed}
use Rattle.reader.proofs.WrittenLaws.{written-table_at, Writable, count_back, table_at-written, length-written, read_fault-written}
use Rattle.faults.specs.Faults.{table_fault}
use Rattle.executor.specs.declared.Machine.{Machine}
use Rattle.executor.specs.State.{fresh}
use Rattle.executor.specs.Parts.{Valid, Room}
use Rattle.executor.proofs.ValidLaws.{table_sound}
use Rattle.executor.proofs.StartLaws.{read_faultless}
use Rattle.layout.specs.Layout.{state_length, tail_start, tail_fields, field_start, spare_start, spare_bytes, table_end, table_part, laid_out, tail_at, unpacked, tail_numbers, packed_tail, packed, machine_of}

-- ---- the parts of laid_out

pub record Laid (b : List ℕ) : Type 0 where
  pub size : length b ≡ state_length
  pub read : (read_fault (table_part b)).number ≡ 0
  pub gap : zeros b (table_end b) (tail_start - table_end b) ≡ true
  pub spare : zeros b spare_start spare_bytes ≡ true

pub laid : (b : List ℕ) → laid_out b ≡ true → Laid b
unfolding laid_out
laid b e =
    let x = and_holds (eqb (length b) state_length) _ e in
    let y = and_holds (eqb (read_fault (table_part b)).number 0) _ x.1 in
    let z = and_holds (zeros b (table_end b) (tail_start - table_end b)) (zeros b spare_start spare_bytes) y.1 in
    record { size = eqb-true (length b) state_length x.0; read = eqb-true (read_fault (table_part b)).number 0 y.0; gap = z.0; spare = z.1 }

pub laid_out_lem : (b : List ℕ) → Laid b → laid_out b ≡ true
unfolding laid_out
laid_out_lem b l =
    simp (eq-eqb (length b) state_length l.size, eq-eqb (read_fault (table_part b)).number 0 l.read, l.gap, l.spare)

-- a part's bytes are bytes
take_bytes : (b : List ℕ) (n : ℕ) → ((i : ℕ) → get_or b i 0 < 256) → (i : ℕ) → get_or (take n b) i 0 < 256
take_bytes b n bytes i = go (le_or_lt n i)
  where
    go : (n ≤ i) ⊎ (i < n) → get_or (take n b) i 0 < 256
    go (inl h) = omega (arith, get_or-eq_default (take n b) 0 {n = i} (omega (arith, length-take n b)))
    go (inr h) = omega (arith, get_or-take n b i 0 h, bytes i)

-- ---- laid out bytes

pub length_tail : (m : Machine) → length m.waiting ≡ places → length m.finished ≡ places → length (packed_tail m) ≡ size_of tail_fields
unfolding packed_tail
length_tail m w f = length_fields tail_fields (tail_numbers m) (w, (f, (refl, (refl, (refl, (refl, (refl, tt)))))))

module _ (b : List ℕ) (l : Laid b) where
  -- the count that the table's part holds is the one that says where it ends
  count_part : get_or (table_part b) 1 0 ≡ get_or b 1 0
  count_part = get_or-take (table_end b) b 1 0 (omega arith)

  pub end_before : table_end b ≤ tail_start
  end_before = omega (arith, (read_passed (table_part b) l.read).head.few, count_part)

  pub length_part : length (table_part b) ≡ table_end b
  length_part = length-take-le (table_end b) b (omega (arith, end_before, l.size))

  -- the table is one that the reader accepts
  pub table_faultless : table_fault (unpacked b).table ≡ false
  unfolding unpacked
  table_faultless = read_faultless (table_part b) l.read

  -- the numbers of the state that they hold are those of the fields
  numbers-unpacked : tail_numbers (unpacked b) ≡ tail_at b
  unfolding unpacked fields_at numbers
  numbers-unpacked = rw (zeros-numbers b tail_start (size_of (take 6 tail_fields)) spare_bytes l.spare)

module _ (b : List ℕ) (bytes : (i : ℕ) → get_or b i 0 < 256) (l : Laid b) where
  table_again : written (table_at (table_part b)) ≡ table_part b
  table_again = written-table_at (table_part b) l.read (take_bytes b (table_end b) bytes)

  -- the bytes in front of the fields
  front_again : written (table_at (table_part b)) ++ replicate (tail_start - length (written (table_at (table_part b)))) 0 ≡ take tail_start b
  front_again =
      let n : ℕ = tail_start - table_end b in
      let gap : tail_start - length (written (table_at (table_part b))) ≡ n = ap (λ (k : ℕ). tail_start - k) (ap length table_again ∙ length_part b l) in
      let whole : table_end b + n ≡ tail_start = omega (arith, end_before b l) in
      ap₂ (λ (x : List ℕ) (k : ℕ). x ++ replicate k 0) table_again gap
      ∙ ap (λ (x : List ℕ). table_part b ++ x) (sym (zeros_part b (table_end b) n (omega (arith, whole, l.size)) l.gap))
      ∙ sym (take-add (table_end b) n b)
      ∙ ap (λ (k : ℕ). take k b) whole

  -- the bytes from there on
  tail_again : packed_tail (unpacked b) ≡ drop tail_start b
  unfolding packed_tail
  tail_again =
      ap (field_bytes tail_fields) (numbers-unpacked b l)
      ∙ fields_again tail_fields b tail_start 0 bytes (omega (arith, l.size))
      ∙ take_all (size_of tail_fields) (drop tail_start b) (omega (arith, length-drop tail_start b, l.size))

  -- a state that holds the same table, in bytes
  packed_front : (m : Machine) → m.table ≡ (unpacked b).table → packed m ≡ take tail_start b ++ packed_tail m
  unfolding packed unpacked
  packed_front m e =
      ap (λ (t : Table). written t ++ (replicate (tail_start - length (written t)) 0 ++ packed_tail m)) e
      ∙ sym (append_assoc (written (table_at (table_part b))) (replicate (tail_start - length (written (table_at (table_part b)))) 0) (packed_tail m))
      ∙ ap (λ (x : List ℕ). x ++ packed_tail m) front_again

  pub pack_unpack : packed (unpacked b) ≡ b
  pack_unpack = packed_front (unpacked b) refl ∙ ap (λ (x : List ℕ). take tail_start b ++ x) tail_again ∙ take-append-drop tail_start b

  pub packed-over : (m : Machine) → m.table ≡ (unpacked b).table → length m.waiting ≡ places → length m.finished ≡ places
      → packed m ≡ over b tail_start (packed_tail m)
  unfolding over
  packed-over m e w f =
      packed_front m e
      ∙ ap (λ (x : List ℕ). take tail_start b ++ x)
      (sym (append-nil (packed_tail m))
      ∙ ap (λ (x : List ℕ). packed_tail m ++ x) (sym (drop_of_length-le b {i = tail_start + length (packed_tail m)} (omega (arith, length_tail m w f, l.size)))))

-- ---- a state in bytes

-- a state without faults has a cache of sixteen slots
pub cache_small : (m : Machine) → Valid m → m.cache < 65536
cache_small m ok = mask_within m.cache 16 (λ i h. omega (arith, (ok.cached i h).0, (table_sound m.table ok.table).few))

-- a state without faults, its counts and its clock in the ranges of their types
pub fit_tail : (m : Machine) → Valid m → Room 65535 m → m.clock < 4294967296 → Fit tail_fields (tail_numbers m)
fit_tail m ok room taken = (
  ok.sized.0,
  below_all 65536 m.waiting (λ i h. omega (arith, room i (omega (arith, ok.sized.0)))),
  (
    ok.sized.1,
    below_all 4294967296 m.finished (λ i h. omega (arith, ok.early i (omega (arith, ok.sized.1)))),
    (
      refl,
      (taken, tt),
      (
        refl,
        (cache_small m ok, tt),
        (
          refl,
          ((runs m.running refl).1, tt),
          (
            refl,
            ((runs m.running refl).0, tt),
            (
              refl,
              below_zeros 256 spare_bytes (omega arith),
              tt,
            ),
          ),
        ),
      ),
    ),
  ),
)
  where
    few : m.table.count ≤ places
    few = (table_sound m.table ok.table).few

    runs : (r : ℕ) → m.running ≡ r → (m.running < 256) × (m.units < 65536)
    runs zero e = (omega arith, omega (arith, ok.rest e))
    runs (suc i) e = (omega (arith, (ok.runner i e).0, few), omega (arith, (ok.measured i e).1))

-- a packed state: the table, the gap behind it, and the fields
module _ (m : Machine) (fit : Fit tail_fields (tail_numbers m)) (w : Writable m.table) where
  gap : ℕ
  gap = tail_start - length (written m.table)

  front : List ℕ
  front = written m.table ++ replicate gap 0

  length_front : length front ≡ tail_start
  unfolding front gap
  length_front =
      omega (
        arith,
        length-append (written m.table) (replicate gap 0),
        length-replicate {A = ℕ} gap 0,
        length-written m.table w,
        few,
      )
    where
      few : m.table.count ≤ places
      few = (sound m.table w.faultless).few

  -- the same bytes, cut in front of the gap, and of the fields
  at_gap : packed m ≡ written m.table ++ (replicate gap 0 ++ packed_tail m)
  unfolding packed gap
  at_gap = refl

  at_tail : packed m ≡ front ++ (packed_tail m ++ [])
  unfolding front
  at_tail = at_gap ∙ sym (append_assoc (written m.table) (replicate gap 0) (packed_tail m)) ∙ ap (λ (x : List ℕ). front ++ x) (sym (append-nil (packed_tail m)))

  -- the fields
  tail_back : tail_at (packed m) ≡ tail_numbers m
  unfolding packed_tail
  tail_back = ap tail_at at_tail ∙ fields_back tail_fields (tail_numbers m) front [] tail_start 0 (omega (arith, length_front)) fit

  -- the layout
  end_packed : table_end (packed m) ≡ length (written m.table)
  end_packed =
      ap table_end at_gap
      ∙ ap record_start (count_back m.table w (replicate gap 0 ++ packed_tail m))
      ∙ sym (length-written m.table w)

  part_packed : table_part (packed m) ≡ written m.table
  part_packed = ap₂ take end_packed at_gap ∙ take_at (written m.table) (replicate gap 0 ++ packed_tail m) (length (written m.table)) refl

  size_packed : length (packed m) ≡ state_length
  unfolding packed_tail
  size_packed =
      ap length at_tail
      ∙ omega (arith, length-append front (packed_tail m ++ []), length_front, ap length (append-nil (packed_tail m)), length_fields tail_fields (tail_numbers m) (fit_sized tail_fields (tail_numbers m) fit))

  gap_packed : zeros (packed m) (table_end (packed m)) (tail_start - table_end (packed m)) ≡ true
  unfolding gap
  gap_packed =
      let n : ℕ = length (written m.table) in
      ap₂ (λ (k : ℕ) (b : List ℕ). zeros b k (tail_start - k)) end_packed at_gap
      ∙ zeros_all (written m.table ++ (replicate gap 0 ++ packed_tail m)) n gap
      (λ i l.
      past (written m.table) (replicate gap 0 ++ packed_tail m) n i refl
      ∙ get_or-append (replicate gap 0) (packed_tail m) 0 i (omega (arith, length-replicate {A = ℕ} gap 0))
      ∙ get_or-replicate gap i 0 0 l)

  spare_packed : zeros (packed m) spare_start spare_bytes ≡ true
  unfolding fields_at
  spare_packed = numbers-zeros (packed m) tail_start (size_of (take 6 tail_fields)) spare_bytes (ap (λ (vs : List (List ℕ)). field_of vs 6) tail_back)

  pub unpacked-packed : unpacked (packed m) ≡ m
  unfolding unpacked
  unpacked-packed = ap₂ machine_of (ap table_at (part_packed ∙ sym (append-nil (written m.table))) ∙ table_at-written m.table w []) tail_back

  pub laid_packed : laid_out (packed m) ≡ true
  laid_packed =
      laid_out_lem (packed m)
      (record {
        size = size_packed;
        read = ap (λ (b : List ℕ). (read_fault b).number) part_packed ∙ ap (λ (r : Refusal). r.number) (read_fault-written m.table w);
        gap = gap_packed;
        spare = spare_packed;
      })

-- ---- a fresh state: the table's own bytes, and zeros

pub packed-fresh : (b : List ℕ) → ((i : ℕ) → get_or b i 0 < 256) → (read_fault b).number ≡ 0 → packed (fresh (table_at b)) ≡ b ++ replicate (state_length - length b) 0
unfolding packed packed_tail field_bytes run fresh
packed-fresh b bytes e =
    let own : written (table_at b) ≡ b = written-table_at b e bytes in
    let n : tail_start - length b + size_of tail_fields ≡ state_length - length b = omega (arith, (read_passed b e).fits, (read_passed b e).head.few) in
    ap (λ (x : List ℕ). x ++ (replicate (tail_start - length x) 0 ++ replicate (size_of tail_fields) 0)) own
    ∙ ap (λ (x : List ℕ). b ++ x) (replicate-append-replicate (tail_start - length b) (size_of tail_fields) 0 ∙ ap (λ (k : ℕ). replicate k 0) n)

-- ---- the writes of pack_tail, field by field

pub pack_parts : (b : List ℕ) (m : Machine) {b1 b2 b3 b4 b5 b6 b7 : List ℕ}
    → length b ≡ state_length → length m.waiting ≡ places → length m.finished ≡ places
    → b1 ≡ over b (field_start 0) (run 2 m.waiting)
    → b2 ≡ over b1 (field_start 1) (run 4 m.finished)
    → b3 ≡ over b2 (field_start 2) (le 4 m.clock)
    → b4 ≡ over b3 (field_start 3) (le 2 m.cache)
    → b5 ≡ over b4 (field_start 4) (le 2 m.units)
    → b6 ≡ over b5 (field_start 5) (le 1 m.running)
    → b7 ≡ over b6 (field_start 6) (replicate spare_bytes 0)
    → b7 ≡ over b tail_start (packed_tail m)
unfolding packed_tail over_fields run
pack_parts b m {b7 = b7} h w f e1 e2 e3 e4 e5 e6 e7 =
    let writes : b7 ≡ over_fields tail_fields (tail_numbers m) b tail_start = simp (e7, e6, e5, e4, e3, e2, e1) in
    writes ∙ over_fields_lem tail_fields (tail_numbers m) b tail_start (w, (f, (refl, (refl, (refl, (refl, (refl, tt))))))) (omega arith)

-- ---- the reads of unpack_with

pub unpack_parts : (t : Table) (b : List ℕ) {ws fs : List ℕ} {c r u k : ℕ} → ws ≡ numbers 2 b (field_start 0) 0 places → fs ≡ numbers 4 b (field_start 1) 0 places
    → c ≡ get 2 b (field_start 3) → r ≡ get 1 b (field_start 5) → u ≡ get 2 b (field_start 4) → k ≡ get 4 b (field_start 2)
    → ◌≡◌ {A = Machine} (record { table = t; waiting = ws; finished = fs; cache = c; running = r; units = u; clock = k }) (machine_of t (tail_at b))
unfolding fields_at numbers
unpack_parts t b ew ef ec er eu ek = simp (ew, ef, ec, er, eu, ek)
