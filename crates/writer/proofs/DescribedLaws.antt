-- A described table has its fields' widths wherever it is accepted. Assumes nothing.
-- record_made, table_made: the numbers that record_of and table_of put together. described_slot: the record of a slot.
-- described-narrow: what writing gives for a described table is what it gives for the one in its fields' widths.
use mathlib.Core.Path.{◌≡◌, refl, sym, ap, ap₂, ◌∙◌, subst}
use mathlib.Core.Logic.{◌⊎◌, inl, inr}
use mathlib.Core.Bool.{Bool, cond, not, ◌||◌, and-false, true≢false}
use mathlib.Core.List.{List, [], ◌∷◌}
use Prim.Native.Nat.{ℕ, ◌+◌, ◌*◌, ◌≤◌, ◌<◌}
use native.Mathlib.Nat.{add-zero}
use native.Mathlib.Omega.{arith}
use lib.Dec.{ltb}
use lib.ListN.{length, get_or}
use borrow.Author.Tests.{lt-ltb, le-ltb, lt-leb}
use Rattle.ranges.specs.Every.{within}
use Rattle.ranges.proofs.SumLaws.{le_or_lt}
use Rattle.ranges.proofs.EveryLaws.{within_passed}
use Rattle.numbers.specs.Numbers
use Rattle.lent.specs.Bytes.{numbers, fields_at}
use Rattle.table.specs.declared.Callback.{Callback}
use Rattle.table.specs.declared.Table.{Table}
use Rattle.table.specs.Values.{callback_ticks, callback_of, table_of, headless, placed, callback_at}
use Rattle.table.proofs.PlacedLaws.{placed_in}
use Rattle.rules.specs.Rules.{head_fault, entries_fault, sums_fault, unused_fault, record_fault, record_fault_by}
use Rattle.rules.proofs.RulesLaws.{cost_many}
use Rattle.rules.proofs.Passed.{HeadPassed, RecordPassed}
use Rattle.rules.proofs.Alike.{Alike}
use Rattle.writer.specs.Writer.{write_of, buffer_after}
use Rattle.writer.specs.Described.{record_size, described_record, described}
use Rattle.writer.specs.Parts.{narrow, narrow_record, narrow_slot, narrow_table}
use Rattle.writer.proofs.AlikeLaws.{writing_alike}

-- the numbers that record_of puts together
pub record_made : (ns : List ℕ) (k : ℕ) {kind next used x y z period jitter distance : ℕ} {es : List ℕ}
    → kind ≡ narrow x → x ≡ get_or ns k 0 → next ≡ narrow y → y ≡ get_or ns (k + 1) 0 → used ≡ narrow z → z ≡ get_or ns (k + 2) 0
    → period ≡ get_or ns (k + 3) 0 → jitter ≡ get_or ns (k + 4) 0 → distance ≡ get_or ns (k + 5) 0 → es ≡ numbers 1 ns k 6 8
    → callback_of (kind ∷ next ∷ used ∷ []) (period ∷ jitter ∷ distance ∷ []) es ≡ narrow_record (described_record ns k)
unfolding described_record fields_at numbers
record_made ns k ek ex en ey eu ez ep ej ed ee = simp (ek, ex, en, ey, eu, ez, ep, ej, ed, ee, add-zero)

-- and the places, filled one by one, under their header
pub table_made : (ns : List ℕ) (t : Table) → t ≡ headless (placed (narrow_slot ns) Numbers.places) → (edition count : ℕ) (ticks : List ℕ) {e n : ℕ} → e ≡ narrow edition → n ≡ narrow count
    → table_of (e ∷ n ∷ []) ticks t.callbacks ≡ narrow_table (edition ∷ count ∷ []) ticks ns
unfolding narrow_table
table_made ns t so edition count ticks ee en =
    ap₂ (λ (bytes : List ℕ) (cs : List Callback). table_of bytes ticks cs) (ap₂ (λ (x y : ℕ). x ∷ y ∷ []) ee en) (ap (λ (u : Table). u.callbacks) so)

-- a number for a byte: the same where it fits, and where it does not both are above what a rule with a limit below 255 accepts
narrow-same : (x : ℕ) → x ≤ 255 → narrow x ≡ x
unfolding narrow
narrow-same x h = rw (le-ltb 255 x h)

narrow_wide : (x : ℕ) → 255 < x → narrow x ≡ 255
unfolding narrow
narrow_wide x h = rw (lt-ltb 255 x h)

narrow_within : (low high x : ℕ) → high < 255 → within low high (narrow x) ≡ within low high x
narrow_within low high x l = go (le_or_lt x 255)
  where
    go : (x ≤ 255) ⊎ (255 < x) → within low high (narrow x) ≡ within low high x
    go (inl h) = ap (within low high) (narrow-same x h)
    go (inr h) = ap (within low high) (narrow_wide x h) ∙ simp (lt-leb 255 high l, lt-leb x high (omega arith), and-false)

narrow_above : (n x : ℕ) → n < 255 → ltb n (narrow x) ≡ ltb n x
narrow_above n x l = go (le_or_lt x 255)
  where
    go : (x ≤ 255) ⊎ (255 < x) → ltb n (narrow x) ≡ ltb n x
    go (inl h) = ap (ltb n) (narrow-same x h)
    go (inr h) = ap (ltb n) (narrow_wide x h) ∙ simp (lt-ltb n 255 l, lt-ltb n x (omega arith))

module _ (n : ℕ) (c : Callback) (spare : Bool) (l : n < 255) where
  abbrev d : Callback
  d = narrow_record c

  -- what the tests of m and of the entries make of a record
  abbrev entries_number : Callback → ℕ
  entries_number x = cond (entries_fault x) Numbers.wrong_entries (cond (sums_fault x) Numbers.above_sum (cond (unused_fault x || spare) Numbers.spare_not_zero 0))

  entries_judged : entries_number c ≡ entries_number d
  unfolding entries_fault sums_fault unused_fault
  entries_judged = go (le_or_lt c.used 255)
    where
      many : (x : Callback) → 8 < x.used → entries_number x ≡ Numbers.wrong_entries
      many x h = rw (sym (cost_many x h))

      go : (c.used ≤ 255) ⊎ (255 < c.used) → entries_number c ≡ entries_number d
      go (inl h) = ap (λ (m : ℕ). entries_number (callback_of (narrow c.kind ∷ narrow c.next ∷ m ∷ []) (callback_ticks c) c.entries)) (sym (narrow-same c.used h))
      go (inr h) = many c (omega arith) ∙ sym (many d (omega (arith, narrow_wide c.used h)))

  record_judged : record_fault n c spare ≡ record_fault n d spare
  unfolding record_fault_by
  record_judged =
      ap₂ (λ (k x : Bool). cond (not k) Numbers.wrong_kind (cond x Numbers.wrong_next (entries_number c)))
      (sym (narrow_within Numbers.timer Numbers.client c.kind (omega arith))) (sym (narrow_above n c.next l))
      ∙ ap (λ (x : ℕ). cond (not (within Numbers.timer Numbers.client d.kind)) Numbers.wrong_kind (cond (ltb n d.next) Numbers.wrong_next x)) entries_judged

  record_same : RecordPassed n c spare → c ≡ d
  record_same p =
      ap₂ (λ (k : ℕ) (rest : List ℕ). callback_of (k ∷ rest) (callback_ticks c) c.entries)
      (sym (narrow-same c.kind (omega (arith, (within_passed Numbers.timer Numbers.client c.kind p.kind).1))))
      (ap₂ (λ (x m : ℕ). x ∷ m ∷ []) (sym (narrow-same c.next (omega (arith, p.next)))) (sym (narrow-same c.used (go (le_or_lt c.used 255)))))
    where
      go : (c.used ≤ 255) ⊎ (255 < c.used) → c.used ≤ 255
      go (inl h) = h
      go (inr h) = absurd (true≢false (cost_many c (omega arith) ∙ p.entries))

module _ (bytes ticks ns : List ℕ) where
  abbrev t : Table
  t = described bytes ticks ns

  abbrev u : Table
  u = narrow_table bytes ticks ns

  head_same : head_fault t.edition t.count ≡ head_fault u.edition u.count
  unfolding described narrow_table head_fault
  head_same = rw (narrow_within Numbers.edition_one Numbers.edition_two (get_or bytes 0 0) (omega arith), narrow_within 1 Numbers.places (get_or bytes 1 0) (omega arith))

  -- a slot's record in both
  abbrev slot : ℕ → Callback
  slot i = described_record ns (record_size * i)

  pub described_slot : (i : ℕ) → i < Numbers.places → callback_at t i ≡ slot i
  unfolding described
  described_slot i l = placed_in slot Numbers.places i (omega arith) l

  slim : (i : ℕ) → i < Numbers.places → callback_at u i ≡ narrow_slot ns i
  unfolding narrow_table
  slim i l = placed_in (narrow_slot ns) Numbers.places i (omega arith) l

  alike : HeadPassed t.edition t.count → Alike t u
  unfolding described narrow_table
  alike p =
      record {
        edition = sym (narrow-same t.edition (omega (arith, p.edition_to)));
        count = sym (narrow-same t.count (omega (arith, p.few)));
        ticks = refl;
        judged = λ i spare l.
            ap (λ (c : Callback). record_fault t.count c spare) (described_slot i (omega (arith, p.few)))
            ∙ record_judged t.count (slot i) spare (omega (arith, p.few))
            ∙ ap (λ (c : Callback). record_fault t.count c spare) (sym (slim i (omega (arith, p.few))));
        same = λ i spare l q.
            described_slot i (omega (arith, p.few))
            ∙ record_same t.count (slot i) spare (omega (arith, p.few)) (subst (λ (c : Callback). RecordPassed t.count c spare) (described_slot i (omega (arith, p.few))) q)
            ∙ sym (slim i (omega (arith, p.few)));
      }

  pub described-narrow : (b : List ℕ) → (write_of t (length b) ≡ write_of u (length b)) × (buffer_after t b ≡ buffer_after u b)
  described-narrow = writing_alike t u head_same alike
