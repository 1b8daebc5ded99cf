-- A table that was normalised, as reader and normaliser see it then. Assumes nothing.
-- edition_same, count_same, ticks-same, slot_in, slot_out: its values are those of before, but for the entries of its records, which are replaced.
-- reads: it is accepted, by all rules. kept: a table without fault 24 is as it was, byte by byte. again: so is one that was normalised.
use mathlib.Core.Path.{◌≡◌, refl, sym, ap, ap₂, subst, ◌∙◌}
use mathlib.Core.Logic.{◌⊎◌, inl, inr}
use mathlib.Core.Bool.{Bool, true, false, not, ◌&&◌}
use mathlib.Core.List.{List, [], ◌∷◌, ◌++◌}
use Prim.Native.Nat.{ℕ, zero, suc, ◌+◌, ◌*◌, ◌-◌, ◌≤◌, ◌<◌}
use native.Mathlib.Nat.{mod-lt}
use native.Mathlib.Omega.{arith}
use lib.Dec.{lit<}
use lib.ListN.{length, get_or, take, drop, get_or-append, get_or-eq_default}
use lib.Seq.{take_at, length-take-le}
use Rattle.numbers.specs.Numbers.{places, longest}
use Rattle.masks.specs.Mask.{has, gather}
use Rattle.masks.proofs.Gather.{gather-same}
use Rattle.ranges.proofs.SumLaws.{le_or_lt}
use Rattle.lent.specs.Bytes.{numbers, run, zeros, fields_at}
use Rattle.lent.specs.Over.{over}
use Rattle.lent.proofs.Replace.{over_before, over_behind, over_own}
use Rattle.lent.proofs.Numbers.{past, numbers-same, numbers-add, length-numbers, run-numbers}
use Rattle.lent.proofs.Spare.{zeros-same}
use Rattle.table.specs.declared.Callback.{Callback}
use Rattle.table.specs.declared.Refusal.{Refusal}
use Rattle.table.specs.Values.{accepted, callback_at, entries_of, table_ticks, placed, vacant}
use Rattle.table.proofs.PlacedLaws.{placed-length, placed_in, placed_out}
use Rattle.link_rules.specs.LinkRules.{links_fault}
use Rattle.rules.specs.Rules.{head_fault, supply_fault}
use Rattle.rules.proofs.Passed.{head_passed, RecordPassedBy, RecordPassed, links_passed, links_accepted}
use Rattle.rules.proofs.Alike.{links_alike, priceless}
use Rattle.reader.specs.Format.{header_clear, record_at, spare_at, record_start, table_at, spares_at, read_fault}
use Rattle.reader.proofs.Accepted.{ReadPassed, passed_by, zero_by, record_by, read_passed, read_record}
use Rattle.closure.specs.Closure.{closed}
use Rattle.normaliser.specs.Normaliser.{normalise_fault, closed_to, normalised}
use Rattle.normaliser.proofs.NormaliserLaws.{slot, normalised_all}
use Rattle.normaliser.proofs.RecordLaws.{replaced, replaced_rises, replaced_sums, replaced_unused, entries_same}
use Rattle.normaliser.proofs.ByteLaws.{m, fits, few, small, length-closed, inside, header_byte, record_byte, slot_closed}

abbrev number_of : Refusal → ℕ
number_of r = r.number

-- a record that has passed all rules but 24 passes all of them with its entries replaced
passes : (n : ℕ) (c : Callback) (spare : Bool) → RecordPassedBy false n c spare → RecordPassed n (replaced c) spare
passes n c spare p =
    record {
      kind = p.kind;
      next = p.next;
      entries = replaced_rises c p.entries;
      below_sums = replaced_sums c p.entries;
      unused = replaced_unused c p.entries p.unused;
      clear = p.clear;
    }

module _ (b : List ℕ) (ok : (normalise_fault b).number ≡ 0) where
  abbrev n : ℕ
  n = get_or b 1 0

  abbrev new : List ℕ
  new = closed_to b n

  -- ---- the values

  pub edition_same : (table_at new).edition ≡ (table_at b).edition
  unfolding table_at fields_at numbers
  edition_same = header_byte b ok 0 (omega arith)

  pub count_same : (table_at new).count ≡ (table_at b).count
  unfolding table_at fields_at numbers
  count_same = header_byte b ok 1 (omega arith)

  pub ticks-same : table_ticks (table_at new) ≡ table_ticks (table_at b)
  unfolding table_at fields_at
  ticks-same = ap (λ (v : List ℕ). get_or v 0 0 ∷ get_or v 1 0 ∷ get_or v 2 0 ∷ get_or v 3 0 ∷ []) (numbers-same 2 new b 0 2 4 (λ i l h. header_byte b ok i (omega arith)))

  -- a slot below n, and one beyond
  pub slot_in : (i : ℕ) → i < n → callback_at (table_at new) i ≡ replaced (callback_at (table_at b) i)
  unfolding table_at
  slot_in i l =
      placed_in (λ j. record_at new (record_start j)) (get_or new 1 0) i (omega (arith, few b ok, header_byte b ok 1 (omega arith))) (omega (arith, header_byte b ok 1 (omega arith)))
      ∙ slot_closed b ok i l
      ∙ ap replaced (sym (record_by false b ok i l))

  pub slot_out : (i : ℕ) → n ≤ i → callback_at (table_at new) i ≡ callback_at (table_at b) i
  unfolding table_at
  slot_out i l = go (le_or_lt places i)
    where
      f : ℕ → Callback
      f j = record_at new (record_start j)

      g : ℕ → Callback
      g j = record_at b (record_start j)

      go : (places ≤ i) ⊎ (i < places) → callback_at (table_at new) i ≡ callback_at (table_at b) i
      go (inr h) = placed_out f (get_or new 1 0) i (omega (arith, header_byte b ok 1 (omega arith))) h ∙ sym (placed_out g n i l h)
      go (inl h) =
          get_or-eq_default (placed f (get_or new 1 0)) vacant {n = i} (omega (arith, placed-length f (get_or new 1 0)))
          ∙ sym (get_or-eq_default (placed g n) vacant {n = i} (omega (arith, placed-length g n)))

  -- ---- spare bytes

  clear_same : header_clear new ≡ header_clear b
  clear_same = zeros-same new b 10 6 (λ i l h. header_byte b ok i (omega arith))

  spare_same : (i : ℕ) → i < n → spare_at new (record_start i) ≡ spare_at b (record_start i)
  unfolding spare_at
  spare_same i l =
      ap not (ap₂ ◌&&◌ (at 3 1 (λ d p q. inl (omega arith))) (ap₂ ◌&&◌ (at 10 2 (λ d p q. inl (omega arith))) (at 28 4 (λ d p q. inr (omega (arith, small b ok i l), omega arith)))))
    where
      at : (o k : ℕ) → ((d : ℕ) → o ≤ d → d < o + k → (d < 12) ⊎ ((12 + 2 * m b ok i ≤ d) × (d < 32))) → zeros new (record_start i + o) k ≡ zeros b (record_start i + o) k
      at o k h = zeros-same new b (record_start i + o) k (λ j p q.
          let e : record_start i + (j - record_start i) ≡ j = omega arith in
          subst (λ (x : ℕ). get_or new x 0 ≡ get_or b x 0) e (record_byte b ok i (j - record_start i) l (h (j - record_start i) (omega arith) (omega arith))))

  spares_same : spares_at new ≡ spares_at b
  unfolding spares_at
  spares_same =
      gather-same (λ i. spare_at new (record_start i)) (λ i. spare_at b (record_start i)) (get_or new 1 0) (λ i l. spare_same i (omega (arith, header_byte b ok 1 (omega arith))))
      ∙ ap (gather (λ i. spare_at b (record_start i))) (header_byte b ok 1 (omega arith))

  -- ---- accepted

  module _ (i : ℕ) (l : i < n) where
    -- the record of a slot
    abbrev old : Callback
    old = callback_at (table_at b) i

    record_passes : RecordPassed (table_at new).count (callback_at (table_at new) i) (has (spares_at new) i)
    unfolding table_at fields_at numbers
    record_passes =
        subst (λ (s : ℕ). RecordPassed (table_at new).count (callback_at (table_at new) i) (has s i)) (sym spares_same)
        (subst (λ (c : Callback). RecordPassed (table_at new).count c (has (spares_at b) i)) (sym (slot_in i l))
        (subst (λ (k : ℕ). RecordPassed k (replaced old) (has (spares_at b) i)) (sym count_same) (passes n old (has (spares_at b) i) ((passed_by false b ok).body.records i l))))

  links_accept : links_fault (table_at new) ≡ accepted
  unfolding table_at fields_at numbers
  links_accept =
      sym (links_alike (table_at b) (table_at new) (sym count_same) (λ i l. ap priceless (sym (slot_in i l))) (λ i l. ((passed_by false b ok).body.records i l).next))
      ∙ links_accepted (table_at b) (passed_by false b ok).body.links

  passed : ReadPassed new
  unfolding table_at fields_at numbers
  passed =
      let p = passed_by false b ok in
      let zero-head : (head_fault (get_or new 0 0) (get_or new 1 0)).number ≡ 0 = ap₂ (λ (x y : ℕ). (head_fault x y).number) (header_byte b ok 0 (omega arith)) (header_byte b ok 1 (omega arith)) ∙ p.head_zero in
      record {
        long = omega (arith, p.long, length-closed b ok n (omega arith));
        head_zero = zero-head;
        head = head_passed (get_or new 0 0) (get_or new 1 0) zero-head;
        fits = length-closed b ok n (omega arith) ∙ p.fits ∙ ap record_start (sym (header_byte b ok 1 (omega arith)));
        body = record {
          clear = ap not clear_same ∙ p.body.clear;
          supply = ap (λ (v : List ℕ). supply_fault (get_or v 0 0) (get_or v 1 0)) ticks-same ∙ p.body.supply;
          delay = subst (λ (v : List ℕ). get_or v 3 0 ≤ longest) (sym ticks-same) p.body.delay;
          horizon = subst (λ (v : List ℕ). get_or v 2 0 ≤ longest) (sym ticks-same) p.body.horizon;
          records = λ i l. record_passes i (subst (λ (k : ℕ). i < k) count_same l);
          links = links_passed (table_at new) (ap number_of links_accept);
        };
      }

  -- what is written reads
  pub reads : read_fault (normalised b) ≡ accepted
  reads = ap read_fault (normalised_all b ok) ∙ zero_by true new passed

-- ---- a table without fault 24

-- every rule but 24 passes where every rule does
pub fewer_rules : (b : List ℕ) → (read_fault b).number ≡ 0 → (normalise_fault b).number ≡ 0
fewer_rules b ok =
    let p = read_passed b ok in
    ap number_of (zero_by false b (record {
      long = p.long;
      head_zero = p.head_zero;
      head = p.head;
      fits = p.fits;
      body = record {
        clear = p.body.clear;
        supply = p.body.supply;
        delay = p.body.delay;
        horizon = p.body.horizon;
        records = λ i l. (let r = p.body.records i l in record { kind = r.kind; next = r.next; entries = r.entries; below_sums = refl; unused = r.unused; clear = r.clear });
        links = p.body.links;
      };
    }))

module _ (b : List ℕ) (bytes : (i : ℕ) → get_or b i 0 < 256) (ok : (read_fault b).number ≡ 0) where
  abbrev weak : (normalise_fault b).number ≡ 0
  weak = fewer_rules b ok

  -- the entries of a slot, written again
  own : (i : ℕ) → i < get_or b 1 0 → over b (record_start i + 12) (run 2 (closed (entries_of (slot b i)))) ≡ b
  unfolding record_at fields_at table_at numbers
  own i l =
      ap (λ (es : List ℕ). over b (record_start i + 12) (run 2 es)) (entries_same (slot b i) r.entries r.below_sums ∙ front)
      ∙ ap (over b (record_start i + 12)) (run-numbers 2 b (record_start i) 12 k bytes (omega (arith, fits b weak, small b weak i l)))
      ∙ over_own b (record_start i + 12) (2 * k) (omega (arith, fits b weak, small b weak i l))
    where
      k : ℕ
      k = (slot b i).used

      r : RecordPassed (get_or b 1 0) (slot b i) (has (spares_at b) i)
      r = subst (λ (c : Callback). RecordPassed (get_or b 1 0) c (has (spares_at b) i)) (read_record b ok i l) ((read_passed b ok).body.records i l)

      front : take k (numbers 2 b (record_start i) 12 8) ≡ numbers 2 b (record_start i) 12 k
      front =
          let e : 8 ≡ k + (8 - k) = omega (arith, small b weak i l) in
          ap (take k) (ap (numbers 2 b (record_start i) 12) e ∙ numbers-add 2 b (record_start i) 12 k (8 - k))
          ∙ take_at (numbers 2 b (record_start i) 12 k) _ k (length-numbers 2 b (record_start i) 12 k)

  kept_to : (i : ℕ) → i ≤ get_or b 1 0 → closed_to b i ≡ b
  unfolding closed_to
  kept_to zero h = refl
  kept_to (suc i) h = ap (λ (x : List ℕ). over x (record_start i + 12) (run 2 (closed (entries_of (slot b i))))) (kept_to i (omega arith)) ∙ own i h

  -- it is as it was, byte by byte
  pub kept : normalised b ≡ b
  kept = normalised_all b weak ∙ kept_to (get_or b 1 0) (omega arith)

-- ---- bytes stay bytes

run_bytes : (xs : List ℕ) (i : ℕ) → get_or (run 2 xs) i 0 < 256
unfolding run
run_bytes [] i = omega arith
run_bytes (x ∷ xs) zero = mod-lt x (lit< tt)
run_bytes (x ∷ xs) (suc zero) = mod-lt _ (lit< tt)
run_bytes (x ∷ xs) (suc (suc i)) = run_bytes xs i

over_bytes : (b : List ℕ) (k : ℕ) (vs : List ℕ) → k + length vs ≤ length b → ((i : ℕ) → get_or b i 0 < 256) → ((i : ℕ) → get_or vs i 0 < 256) → (i : ℕ) → get_or (over b k vs) i 0 < 256
unfolding over
over_bytes b k vs h bytes more i = go (le_or_lt k i) (le_or_lt (k + length vs) i)
  where
    go : (k ≤ i) ⊎ (i < k) → (k + length vs ≤ i) ⊎ (i < k + length vs) → get_or (over b k vs) i 0 < 256
    go (inr l) _ = omega (arith, over_before b k vs h i l, bytes i)
    go (inl l) (inl p) = omega (arith, over_behind b k vs h i p, bytes i)
    go (inl l) (inr p) =
        let e : k + (i - k) ≡ i = omega arith in
        let at : get_or (over b k vs) i 0 ≡ get_or vs (i - k) 0 =
        ap (λ (j : ℕ). get_or (over b k vs) j 0) (sym e)
        ∙ past (take k b) (vs ++ drop (k + length vs) b) k (i - k) (length-take-le k b (omega arith))
        ∙ get_or-append vs _ 0 (i - k) (omega arith) in
        omega (arith, at, more (i - k))

module _ (b : List ℕ) (bytes : (i : ℕ) → get_or b i 0 < 256) (ok : (normalise_fault b).number ≡ 0) where
  closed_bytes : (k : ℕ) → k ≤ get_or b 1 0 → (i : ℕ) → get_or (closed_to b k) i 0 < 256
  unfolding closed_to
  closed_bytes zero h i = bytes i
  closed_bytes (suc k) h i =
      over_bytes (closed_to b k) (record_start k + 12) (run 2 (closed (entries_of (slot b k)))) (inside b ok k h) (closed_bytes k (omega arith)) (run_bytes (closed (entries_of (slot b k)))) i

  -- a second time changes nothing
  pub again : normalised (normalised b) ≡ normalised b
  again =
      kept (normalised b) (λ i. subst (λ (x : List ℕ). get_or x i 0 < 256) (sym (normalised_all b ok)) (closed_bytes (get_or b 1 0) (omega arith) i)) (ap number_of (reads b ok))
