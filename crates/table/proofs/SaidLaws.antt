-- What C gets of a result that is `unless`: the refusal that was tested. Assumes nothing.
use mathlib.Core.Path.{◌≡◌, sym, ap, ◌∙◌}
use native.Mathlib.Decide.{ℕ_discrete}
use Rattle.table.specs.declared.Refusal.{Refusal}
use Rattle.table.specs.Values.{accepted, unless}
use Rattle.table.specs.Said.{refusal_in}
use Rattle.table.proofs.RefusalLaws.{refused, passed}

pub refusal_unless : {A : Type 0} (r : Refusal) (x : A) → (r.number ≡ 0 → r ≡ accepted) → refusal_in (unless r x) ≡ r
refusal_unless r x ok = go (ℕ_discrete r.number 0)
  where
    go : Dec (r.number ≡ 0) → refusal_in (unless r x) ≡ r
    go (yes e) = ap refusal_in (passed r x e) ∙ sym (ok e)
    go (no h) = ap refusal_in (refused r x h)
