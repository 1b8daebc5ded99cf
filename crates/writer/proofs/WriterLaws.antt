-- The writes of a table, what they add up to, and the writer as a whole. Assumes nothing.
-- header_parts_lem, front_parts_lem, record_parts: the writes of put_header, put_front and put_record.
-- records_length, records_more: one record more. table-whole: the header, and all of them.
-- write_refused, write_short, write_fits, write_passed: the refusal, test by test. writing_refused, writing_done: what is handed back, and the buffer. writing_passed: back again.
use mathlib.Core.Path.{◌≡◌, refl, sym, ap, ◌∙◌}
use mathlib.Core.Logic.{◌≢◌}
use mathlib.Core.Bool.{Bool, true, false, cond}
use mathlib.Core.List.{List, [], ◌∷◌, ◌++◌, append_assoc}
use Prim.Native.Nat.{ℕ, ◌≤◌, ◌<◌, ◌+◌, ◌*◌}
use native.Mathlib.Numerals.{add-one}
use native.Mathlib.Decide.{ℕ_discrete}
use native.Mathlib.Omega.{arith}
use lib.Dec.{eqb, ltb}
use lib.ListN.{length, replicate, length-append}
use borrow.Author.Tests.{eq-eqb, ne_eqb, lt-ltb, le-ltb, ltb-false}
use Rattle.numbers.specs.Numbers.{entry_places, header_length, record_length, short_buffer}
use Rattle.lent.specs.Bytes.{Field, field, le, run, field_bytes}
use Rattle.lent.specs.Over.{over}
use Rattle.lent.proofs.Numbers.{length_run}
use Rattle.lent.proofs.Replace.{over-over}
use Rattle.lent.proofs.Fields.{length_fields, over_fields, over_fields_lem}
use Rattle.table.specs.declared.Callback.{Callback}
use Rattle.table.specs.declared.Refusal.{Refusal}
use Rattle.table.specs.declared.Table.{Table}
use Rattle.table.specs.Values.{refuse, accepted, callback_at}
use Rattle.table.proofs.RefusalLaws.{first_refused, first_passed, both_passed}
use Rattle.rules.specs.Rules.{fault_of}
use Rattle.rules.proofs.Passed.{test_zero}
use Rattle.reader.specs.Format.{header_fields, record_fields, record_start}
use Rattle.reader.specs.Written.{header_numbers, record_numbers, record_bytes, records_bytes, written}
use Rattle.writer.specs.declared.Written.{Written}
use Rattle.writer.specs.Writer.{write_fault, refused_writing, write_of, buffer_after}
use Rattle.writer.specs.Parts.{record_front}

-- ---- the header

abbrev header_writes : List Field
header_writes = field 1 1 ∷ field 1 1 ∷ field 2 1 ∷ field 2 1 ∷ field 2 1 ∷ field 2 1 ∷ field 1 6 ∷ []

abbrev header_parts : Table → List (List ℕ)
header_parts t =
    (t.edition ∷ []) ∷ (t.count ∷ []) ∷ (t.budget ∷ []) ∷ (t.period ∷ []) ∷ (t.horizon ∷ []) ∷ (t.delay ∷ []) ∷ replicate 6 0 ∷ []

length-header : (t : Table) → length (field_bytes header_fields (header_numbers t)) ≡ header_length
length-header t = length_fields header_fields (header_numbers t) (refl, (refl, (refl, tt)))

pub header_parts_lem : (b : List ℕ) (t : Table) {b1 b2 b3 b4 b5 b6 b7 : List ℕ} → header_length ≤ length b
    → b1 ≡ over b 0 (le 1 t.edition)
    → b2 ≡ over b1 1 (le 1 t.count)
    → b3 ≡ over b2 2 (le 2 t.budget)
    → b4 ≡ over b3 4 (le 2 t.period)
    → b5 ≡ over b4 6 (le 2 t.horizon)
    → b6 ≡ over b5 8 (le 2 t.delay)
    → b7 ≡ over b6 10 (replicate 6 0)
    → b7 ≡ over b 0 (field_bytes header_fields (header_numbers t))
unfolding over_fields field_bytes run
header_parts_lem b t {b7 = b7} h e1 e2 e3 e4 e5 e6 e7 =
    let writes : b7 ≡ over_fields header_writes (header_parts t) b 0 = simp (e7, e6, e5, e4, e3, e2, e1) in
    writes ∙ over_fields_lem header_writes (header_parts t) b 0 (refl, (refl, (refl, (refl, (refl, (refl, (refl, tt))))))) (omega arith)

-- ---- a record

abbrev front_writes : List Field
front_writes = field 1 1 ∷ field 1 1 ∷ field 1 1 ∷ field 1 1 ∷ field 2 1 ∷ field 2 1 ∷ field 2 1 ∷ field 2 1 ∷ []

abbrev front_parts : Callback → List (List ℕ)
front_parts c =
    (c.kind ∷ []) ∷ (c.next ∷ []) ∷ (c.used ∷ []) ∷ (0 ∷ []) ∷ (c.period ∷ []) ∷ (c.jitter ∷ []) ∷ (c.distance ∷ []) ∷ (0 ∷ []) ∷ []

pub front_parts_lem : (b : List ℕ) (k : ℕ) (c : Callback) {b1 b2 b3 b4 b5 b6 b7 b8 : List ℕ} → k + record_length ≤ length b
    → b1 ≡ over b k (le 1 c.kind)
    → b2 ≡ over b1 (k + 1) (le 1 c.next)
    → b3 ≡ over b2 (k + 2) (le 1 c.used)
    → b4 ≡ over b3 (k + 3) (le 1 0)
    → b5 ≡ over b4 (k + 4) (le 2 c.period)
    → b6 ≡ over b5 (k + 6) (le 2 c.jitter)
    → b7 ≡ over b6 (k + 8) (le 2 c.distance)
    → b8 ≡ over b7 (k + 10) (le 2 0)
    → b8 ≡ over b k (record_front c)
unfolding over_fields field_bytes run
front_parts_lem b k c {b8 = b8} h e1 e2 e3 e4 e5 e6 e7 e8 =
    let p2 : k + 1 + 1 ≡ k + 2 = omega arith in
    let p3 : k + 2 + 1 ≡ k + 3 = omega arith in
    let p4 : k + 3 + 1 ≡ k + 4 = omega arith in
    let p6 : k + 4 + 2 ≡ k + 6 = omega arith in
    let p8 : k + 6 + 2 ≡ k + 8 = omega arith in
    let p10 : k + 8 + 2 ≡ k + 10 = omega arith in
    let writes : b8 ≡ over_fields front_writes (front_parts c) b k = simp (e8, e7, e6, e5, e4, e3, e2, e1, p2, p3, p4, p6, p8, p10) in
    writes ∙ over_fields_lem front_writes (front_parts c) b k (refl, (refl, (refl, (refl, (refl, (refl, (refl, (refl, tt)))))))) (omega arith)

module _ (c : Callback) (es : length c.entries ≡ entry_places) where
  length-record : length (record_bytes c) ≡ record_length
  unfolding record_bytes
  length-record = length_fields record_fields (record_numbers c) (refl, (refl, (refl, (refl, (es, (refl, tt))))))

  pub record_parts : (b : List ℕ) (k : ℕ) {b1 b2 b3 : List ℕ} → k + record_length ≤ length b
      → b1 ≡ over b k (record_front c)
      → b2 ≡ over b1 (k + 12) (run 2 c.entries)
      → b3 ≡ over b2 (k + 28) (replicate 4 0)
      → b3 ≡ over b k (record_bytes c)
  unfolding field_bytes run record_bytes
  record_parts b k {b1 = b1} {b2 = b2} h e1 e2 e3 =
      let n : length (run 2 c.entries) ≡ 16 = length_run 2 c.entries ∙ ap (λ (m : ℕ). 2 * m) es in
      let two : b2 ≡ over b k (record_front c ++ run 2 c.entries) =
      e2 ∙ ap (λ (x : List ℕ). over x (k + 12) (run 2 c.entries)) e1 ∙ over-over b k (record_front c) (run 2 c.entries) (k + 12) refl (omega arith) in
      e3
      ∙ ap (λ (x : List ℕ). over x (k + 28) (replicate 4 0)) two
      ∙ over-over b k (record_front c ++ run 2 c.entries) (replicate 4 0) (k + 28) (omega (arith, length-append (record_front c) (run 2 c.entries))) (omega arith)
      ∙ ap (over b k) (append_assoc (record_front c) (run 2 c.entries) (replicate 4 0))

-- ---- the records in turn, behind the header

module _ (t : Table) (i : ℕ) (size : length (records_bytes t i) ≡ record_length * i) (es : length (callback_at t i).entries ≡ entry_places) where
  next : records_bytes t (i + 1) ≡ records_bytes t i ++ record_bytes (callback_at t i)
  unfolding records_bytes
  next = ap (records_bytes t) (add-one i)

  pub records_length : length (records_bytes t (i + 1)) ≡ record_length * (i + 1)
  records_length = ap length next ∙ omega (arith, length-append (records_bytes t i) (record_bytes (callback_at t i)), size, length-record (callback_at t i) es)

  pub records_more : (b : List ℕ) → record_start (i + 1) ≤ length b
      → over (over b header_length (records_bytes t i)) (record_start i) (record_bytes (callback_at t i)) ≡ over b header_length (records_bytes t (i + 1))
  records_more b h =
      over-over b header_length (records_bytes t i) (record_bytes (callback_at t i)) (record_start i) (omega (arith, size)) (omega (arith, length-record (callback_at t i) es))
      ∙ ap (over b header_length) (sym next)

-- header and records
pub table-whole : (t : Table) (b : List ℕ) {b1 b2 : List ℕ} → record_start t.count ≤ length b → length (records_bytes t t.count) ≡ record_length * t.count
    → b1 ≡ over b 0 (field_bytes header_fields (header_numbers t))
    → b2 ≡ over b1 header_length (records_bytes t t.count)
    → b2 ≡ over b 0 (written t)
unfolding written
table-whole t b h size e1 e2 =
    e2
    ∙ ap (λ (x : List ℕ). over x header_length (records_bytes t t.count)) e1
    ∙ over-over b 0 (field_bytes header_fields (header_numbers t)) (records_bytes t t.count) header_length (omega (arith, length-header t)) (omega (arith, size))

-- ---- what writing gives

module _ (t : Table) (room : ℕ) where
  module _ (r : Refusal) (so : r ≡ fault_of t) where
    pub write_refused : r.number ≢ 0 → write_fault t room ≡ r
    unfolding write_fault
    write_refused h = rw (← so) (first_refused r _ h)

    module _ (ok : r.number ≡ 0) where
      fitting : write_fault t room ≡ cond (ltb room (record_start t.count)) (refuse short_buffer 0) accepted
      unfolding write_fault
      fitting = rw (← so) (first_passed r _ ok)

      pub write_short : room < record_start t.count → write_fault t room ≡ refuse short_buffer 0
      write_short h = fitting ∙ rw (lt-ltb room (record_start t.count) h)

      pub write_fits : record_start t.count ≤ room → write_fault t room ≡ accepted
      write_fits h = fitting ∙ rw (le-ltb room (record_start t.count) h)

-- what is not refused has no fault, and room
pub write_passed : (t : Table) (room : ℕ) → (write_fault t room).number ≡ 0 → ((fault_of t).number ≡ 0) × (record_start t.count ≤ room)
unfolding write_fault
write_passed t room e =
    let p = both_passed (fault_of t) _ e in
    (p.0, ltb-false room (record_start t.count) (test_zero (ltb room (record_start t.count)) short_buffer 0 accepted (λ z. omega arith) p.1).0)

module _ (t : Table) (b : List ℕ) (r : Refusal) (so : write_fault t (length b) ≡ r) where
  abbrev whole : Written
  whole = record { length = record_start t.count; number = 0; index = 0 }

  -- by the refusal's number
  result : (x : Bool) → eqb r.number 0 ≡ x → write_of t (length b) ≡ elim x as (λ _. Written) [ true ↦ whole | false ↦ refused_writing r ]
  unfolding write_of
  result x e =
      ap (λ (y : Refusal). elim (eqb y.number 0) as (λ _. Written) [ true ↦ whole | false ↦ refused_writing y ]) so
      ∙ ap (λ (y : Bool). elim y as (λ _. Written) [ true ↦ whole | false ↦ refused_writing r ]) e

  buffer : (x : Bool) → eqb r.number 0 ≡ x → buffer_after t b ≡ elim x as (λ _. List ℕ) [ true ↦ over b 0 (written t) | false ↦ b ]
  unfolding buffer_after
  buffer x e = ap (λ (y : Bool). elim y as (λ _. List ℕ) [ true ↦ over b 0 (written t) | false ↦ b ]) (ap (λ (y : Refusal). eqb y.number 0) so ∙ e)

  pub writing_refused : r.number ≢ 0 → (write_of t (length b) ≡ refused_writing r) × (buffer_after t b ≡ b)
  writing_refused h = let e = ne_eqb r.number 0 h in (result false e, buffer false e)

  pub writing_done : r.number ≡ 0 → (write_of t (length b) ≡ whole) × (buffer_after t b ≡ over b 0 (written t))
  writing_done z = let e = eq-eqb r.number 0 z in (result true e, buffer true e)

-- a writing without a refusal's number is not refused
pub writing_passed : (t : Table) (b : List ℕ) → (write_of t (length b)).number ≡ 0 → (write_fault t (length b)).number ≡ 0
writing_passed t b done = go (ℕ_discrete (write_fault t (length b)).number 0)
  where
    go : Dec ((write_fault t (length b)).number ≡ 0) → (write_fault t (length b)).number ≡ 0
    go (yes e) = e
    go (no h) = ap (λ (w : Written). w.number) (sym (writing_refused t b _ refl h).0) ∙ done
