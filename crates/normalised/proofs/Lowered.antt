-- A table that was normalised has the numbers of before, and lower costs; a history within its old curves is within the new ones. Assumes nothing.
use mathlib.Core.Path.{◌≡◌, refl, sym, ap, subst, ◌∙◌}
use mathlib.Core.Logic.{◌⊎◌, inl, inr}
use mathlib.Core.Bool.{Bool, false}
use mathlib.Core.List.{List}
use Prim.Native.Nat.{ℕ, ◌+◌, ◌≤◌, ◌<◌}
use native.Mathlib.Omega.{arith}
use lib.Dec.{T}
use lib.ListN.{length, get_or}
use Rattle.ranges.specs.Sum.{sum, given}
use Rattle.ranges.proofs.SumLaws.{le_or_lt, sum_same}
use Rattle.lent.specs.Bytes.{numbers, fields_at}
use Rattle.curves.specs.Cost.{cost}
use Rattle.table.specs.declared.Callback.{Callback}
use Rattle.table.specs.declared.Table.{Table}
use Rattle.table.specs.Values.{callback_ticks, callback_at, entries_of}
use Rattle.table.specs.Links.{is_head}
use Rattle.rules.specs.Rules.{entries_fault}
use Rattle.rules.proofs.Sound.{cost_count, used_length}
use Rattle.reader.specs.Format.{table_at}
use Rattle.reader.proofs.Accepted.{passed_by}
use Rattle.windows.specs.Bounds.{cost_of}
use Rattle.guarantee.specs.History.{Tick, Result, tick_at, activated_at, starts_at}
use Rattle.guarantee.specs.Within.{WithinCurves}
use Rattle.guarantee.proofs.Unrefused.{head_activated}
use Rattle.closure.specs.Closure.{closed}
use Rattle.closure.proofs.ClosureLaws.{closed-cost}
use Rattle.closure.proofs.RunLaws.{runs_within}
use Rattle.normaliser.specs.Normaliser.{normalise_fault, closed_to, normalised}
use Rattle.normaliser.proofs.NormaliserLaws.{normalised_all}
use Rattle.normaliser.proofs.RecordLaws.{replaced, replaced_entries}
use Rattle.normaliser.proofs.Readable.{edition_same, count_same, ticks-same, slot_in, slot_out}
use Rattle.lower_costs.specs.LowerCosts.{LowerCosts}
use Rattle.lower_costs.proofs.LowerCostsLaws.{same_head, same-arrivals, same-supply}

module _ (b : List ℕ) (ok : (normalise_fault b).number ≡ 0) where
  abbrev t : Table
  t = table_at b

  abbrev u : Table
  u = table_at (closed_to b (get_or b 1 0))

  -- rule 10 of each record
  ten : (i : ℕ) → i < t.count → entries_fault (callback_at t i) ≡ false
  ten i l = ((passed_by false b ok).body.records i l).entries

  -- the entries of each slot
  pub entries_closed : (i : ℕ) → i < t.count → entries_of (callback_at u i) ≡ closed (entries_of (callback_at t i))
  unfolding table_at fields_at numbers
  entries_closed i l = ap entries_of (slot_in b ok i l) ∙ replaced_entries (callback_at t i) (ten i l)

  -- what is the same of a record is the same of every slot
  alike : {A : Type 0} (f : Callback → A) → ((c : Callback) → f (replaced c) ≡ f c) → (i : ℕ) → f (callback_at u i) ≡ f (callback_at t i)
  alike f same i = go (le_or_lt (get_or b 1 0) i)
    where
      go : (get_or b 1 0 ≤ i) ⊎ (i < get_or b 1 0) → f (callback_at u i) ≡ f (callback_at t i)
      go (inl l) = ap f (slot_out b ok i l)
      go (inr l) = ap f (slot_in b ok i l) ∙ same (callback_at t i)

  lowered : LowerCosts t u
  unfolding cost_of
  lowered =
      record {
        edition = edition_same b ok;
        count = count_same b ok;
        ticks = ticks-same b ok;
        kinds = alike (λ c. c.kind) (λ c. refl);
        nexts = alike (λ c. c.next) (λ c. refl);
        arrivals = alike callback_ticks (λ c. refl);
        costs = λ i n l. subst (λ (es : List ℕ). cost es n ≤ cost (entries_of (callback_at t i)) n) (sym (entries_closed i l)) (closed-cost (entries_of (callback_at t i)) n);
      }

  -- ---- histories

  module _ (h : List Tick) (r : List Result) (w : WithinCurves t h r) where
    -- the activations of a head are the same in both
    activated : (i x : ℕ) → T (is_head u i) → activated_at u h r i x ≡ activated_at t h r i x
    activated i x e = head_activated u h r i x e ∙ sym (head_activated t h r i x (subst T (same_head t u lowered i) e))

    carried : WithinCurves u h r
    unfolding cost_of
    carried =
        record {
          arrivals = λ i x D l e f. (
              let below = subst (λ (n : ℕ). i < n) (count_same b ok) l in
              let before = w.arrivals i x D below (subst T (same_head t u lowered i) e) f in
              omega (
                arith,
                before,
                sum_same (λ v. given (activated_at u h r i (x + v)) 1) (λ v. given (activated_at t h r i (x + v)) 1) D (λ v _. ap (λ (c : Bool). given c 1) (activated i (x + v) e)),
                ap (λ (a : ℕ → ℕ → ℕ). a i D) (same-arrivals t u lowered),
              ));
          supply = λ x D f. omega (arith, w.supply x D f, ap (λ (s : ℕ → ℕ). s D) (same-supply t u lowered));
          costs = λ i x D l f. (
              let below = subst (λ (n : ℕ). i < n) (count_same b ok) l in
              let es = entries_of (callback_at t i) in
              subst (λ (new : List ℕ). sum D (λ v. given (starts_at r i (x + v)) (tick_at h (x + v)).cost) ≤ cost new (sum D (λ v. given (starts_at r i (x + v)) 1)))
              (sym (entries_closed i below))
              (runs_within es (starts_at r i) (λ v. (tick_at h v).cost) (length h)
              (omega (arith, used_length (callback_at t i) (ten i below), (cost_count (callback_at t i) (ten i below)).0)) (λ y E g. w.costs i y E below g) x D f));
          heads = λ i x l e. (
              let was = w.heads i x l e in
              (subst (λ (n : ℕ). i < n) (sym (count_same b ok)) was.0, subst T (sym (same_head t u lowered i)) was.1));
          offers = w.offers;
        }

  -- ---- of what the normaliser makes of the bytes

  pub low : LowerCosts t (table_at (normalised b))
  low = subst (λ (x : List ℕ). LowerCosts t (table_at x)) (sym (normalised_all b ok)) lowered

  pub still_within : (h : List Tick) (r : List Result) → WithinCurves t h r → WithinCurves (table_at (normalised b)) h r
  still_within h r w = subst (λ (x : List ℕ). WithinCurves (table_at x) h r) (sym (normalised_all b ok)) (carried h r w)
