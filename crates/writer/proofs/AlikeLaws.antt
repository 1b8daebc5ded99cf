-- Tables of which the rules see the same are written alike. Assumes nothing.
-- written_alike: the same bytes. writing_alike: the same result, and the same buffer.
use mathlib.Core.Path.{◌≡◌, refl, sym, ap, ap₂, ◌∙◌}
use mathlib.Core.Bool.{cond}
use mathlib.Core.List.{List, [], ◌∷◌, ◌++◌}
use Prim.Native.Nat.{ℕ, zero, suc, ◌≤◌}
use native.Mathlib.Decide.{ℕ_discrete}
use native.Mathlib.Omega.{arith}
use lib.Dec.{ltb}
use lib.ListN.{length}
use Rattle.numbers.specs.Numbers
use Rattle.lent.specs.Bytes.{field_bytes}
use Rattle.lent.specs.Over.{over}
use Rattle.table.specs.declared.Table.{Table}
use Rattle.table.specs.Values.{refuse, accepted, table_of}
use Rattle.table.proofs.RefusalLaws.{first_alike}
use Rattle.rules.specs.Rules.{head_fault, fault_of}
use Rattle.rules.proofs.Passed.{HeadPassed, fault_passed}
use Rattle.rules.proofs.Alike.{Alike, fault_alike}
use Rattle.reader.specs.Format.{header_fields, record_start}
use Rattle.reader.specs.Written.{header_numbers, record_bytes, records_bytes, written}
use Rattle.writer.specs.Writer.{write_fault, write_of, buffer_after}
use Rattle.writer.proofs.WriterLaws.{write_passed, writing_refused, writing_done}

module _ (t u : Table) (a : Alike t u) (ok : (fault_of t).number ≡ 0) where
  records_alike : (i : ℕ) → i ≤ t.count → records_bytes t i ≡ records_bytes u i
  unfolding records_bytes
  records_alike zero h = refl
  records_alike (suc i) h =
      ap₂ ◌++◌ (records_alike i (omega arith)) (ap record_bytes (a.same i _ h ((fault_passed t ok).1.records i h)))

  pub written_alike : written t ≡ written u
  unfolding written
  written_alike =
      ap₂ ◌++◌
      (ap₂ (λ (bytes ticks : List ℕ). field_bytes header_fields (header_numbers (table_of bytes ticks []))) (ap₂ (λ (e n : ℕ). e ∷ n ∷ []) a.edition a.count) a.ticks)
      (records_alike t.count (omega arith) ∙ ap (records_bytes u) a.count)

module _ (t u : Table) (head : head_fault t.edition t.count ≡ head_fault u.edition u.count) (alike : HeadPassed t.edition t.count → Alike t u) where
  fault_same : (room : ℕ) → write_fault t room ≡ write_fault u room
  unfolding write_fault
  fault_same room =
      first_alike _ _ _ _ (fault_alike t u head alike)
      (λ e. ap (λ (n : ℕ). cond (ltb room (record_start n)) (refuse Numbers.short_buffer 0) accepted) (alike (fault_passed t e).0).count)

  pub writing_alike : (b : List ℕ) → (write_of t (length b) ≡ write_of u (length b)) × (buffer_after t b ≡ buffer_after u b)
  writing_alike b = go (ℕ_discrete (write_fault t (length b)).number 0)
    where
      go : Dec ((write_fault t (length b)).number ≡ 0) → (write_of t (length b) ≡ write_of u (length b)) × (buffer_after t b ≡ buffer_after u b)
      go (no h) =
          let x = writing_refused t b _ refl h in
          let y = writing_refused u b _ (sym (fault_same (length b))) h in
          (x.0 ∙ sym y.0, x.1 ∙ sym y.1)
      go (yes e) =
          let x = writing_done t b _ refl e in
          let y = writing_done u b _ (sym (fault_same (length b))) e in
          let ok = (write_passed t (length b) e).0 in
          let like = alike (fault_passed t ok).0 in
          (x.0 ∙ ap (λ (n : ℕ). record { length = record_start n; number = 0; index = 0 }) like.count ∙ sym y.0, x.1 ∙ ap (over b 0) (written_alike t u like ok) ∙ sym y.1)
