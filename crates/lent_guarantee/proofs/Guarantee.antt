-- The claim in lent bytes: a history in lent bytes has the results of the same history by value, so that the claim by value is the claim. Assumes nothing.
use mathlib.Core.Path.{◌≡◌, refl, sym, ap, ap₂, subst, ◌∙◌}
use mathlib.Core.List.{List, [], ◌∷◌}
use lib.ListN.{length}
use Rattle.reader.specs.Format.{table_at}
use Rattle.answers.specs.Outcome.{reply_of}
use Rattle.executor.specs.declared.Machine.{Machine}
use Rattle.executor.specs.declared.Ticked.{Ticked}
use Rattle.executor.specs.Start.{start_of}
use Rattle.sheet.specs.Sheet.{row_of}
use Rattle.sheet.proofs.Accepted.{analysed_read}
use Rattle.guarantee.specs.History.{Result, result_of, results}
use Rattle.guarantee.specs.Within.{WithinCurves}
use Rattle.guarantee.specs.Claim.{Guaranteed}
use Rattle.guarantee.proofs.Guarantee.{guarantee}
use Rattle.cuorfelt.specs.Edge.{reply_to}
use Rattle.cuorfelt.specs.Lent.{Call}
use Rattle.cuorfelt.proofs.Lent.{called, replies_from, outcome_back, flag_back, lent_replies}
use Rattle.lent_guarantee.specs.Claim.{ticks, result_in, results_in, LentGuarantee}

-- a reply holds the tick's result
result_back : (x : Ticked) → result_in (reply_to x) ≡ result_of x
unfolding reply_of
result_back x = λ i. record {
  outcome = outcome_back x.outcome x.started x.polled x.gathered x.folded i;
  started = flag_back x.started i;
  polled = flag_back x.polled i;
  gathered = x.gathered;
  folded = x.folded;
}

-- and so along the list
results_back : (m : Machine) (h : List Call) → results_in (replies_from m h) ≡ results m (ticks h)
unfolding results_in replies_from results ticks
results_back m [] = refl
results_back m (x ∷ h) = ap₂ ◌∷◌ (result_back (called m x)) (results_back (called m x).machine h)

pub lent_guarantee : LentGuarantee
lent_guarantee b row state h bytes size ok short =
    subst (λ (r : List Result). WithinCurves (table_at b) (ticks h) r → Guaranteed (table_at b) (row_of b row) (ticks h) r)
    (sym (ap results_in (lent_replies b state bytes size (analysed_read b (length row) ok) h) ∙ results_back (start_of b).machine h))
    (guarantee b row (ticks h) ok short)
