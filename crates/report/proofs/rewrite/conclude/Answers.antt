-- A failed read leaves the bytes and ends with 2; else they are what `rewrite` left, and the status goes by what it returned: 2 where not all was written.
use mathlib.Core.Path.{◌≡◌, refl, sym, ap, ◌∙◌, subst}
use mathlib.Core.Bool.{Bool, true, false}
use mathlib.Core.List.{List}
use Prim.Native.Nat.{ℕ}
use borrow.Author.Rules.{rules}
use Rattle.table.specs.declared.Refusal.{Refusal}
use Rattle.normaliser.specs.Normaliser.{normalise_fault, normalised}
use Rattle.report.specs.Status.{status_by, failed}
use Rattle.report.specs.Rewrite.{Rewrites}
use Rattle.report.proofs.StatusLaws.{unwritten}
use Rattle.report.proofs.rewrite.conclude.Goals as goal

rewrites_unread : (b : List ℕ) (u : Bool) (r : ℕ) → u ≡ true → r ≡ failed → Rewrites b u b r
unfolding Rewrites
rewrites_unread b u r unread status = subst (λ (v : Bool). Rewrites b v b r) (sym unread) (refl, status)

rewrites_read : (b after : List ℕ) (u : Bool) (r : ℕ) (w : Bool) (x : Refusal) → u ≡ false → after ≡ normalised b → x ≡ normalise_fault b → r ≡ status_by w x → Rewrites b u after r
unfolding Rewrites
rewrites_read b after u r w x read same fault status = subst (λ (v : Bool). Rewrites b v after r) (sym read) (w, same, status ∙ ap (status_by w) fault)

pub returns-then-unread : goal.returns-then-unread
returns-then-unread c = rewrites_unread _ _ _ (search rules) c.fail.ensures

pub returns-then-not-done : goal.returns-then-not-done
returns-then-not-done c =
    let done = c.rewrite-done in
    rewrites_read _ _ _ _ _ _ (search rules) done.ensures.1 done.ensures.0 (c.fail-then-not-done.ensures ∙ sym (unwritten done.result.written _ (search rules)))

pub returns : goal.returns
returns c =
    let done = c.rewrite-done in
    rewrites_read _ _ _ _ _ _ (search rules) done.ensures.1 done.ensures.0 c.status_by.ensures
