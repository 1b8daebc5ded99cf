use mathlib.Core.Path.{refl, sym, ap, ◌∙◌, subst}
use mathlib.Core.List.{List}
use Prim.Native.Nat.{ℕ, ◌+◌, ◌≤◌, ◌<◌}
use native.Mathlib.Omega.{arith}
use Rattle.std.specs.Prelude.{Err}
use Rattle.std.proofs.lemmas.Result.{err_from_is_err_and}
use Rattle.numbers.specs.Numbers.{entry_places}
use Rattle.lent.specs.Bytes.{run}
use Rattle.lent.specs.Over.{over}
use Rattle.table.specs.declared.Callback.{Callback}
use Rattle.table.specs.Values.{entries_of, callback_at}
use Rattle.table.proofs.RefusalLaws.{refused, passed, err_refused}
use Rattle.reader.specs.Format.{record_start}
use Rattle.closure.specs.Closure.{closed}
use Rattle.normaliser.specs.Normaliser.{closed_to, normalise_fault}
use Rattle.normaliser.proofs.NormaliserLaws.{Taken, taken, closed_more, normalised-refused, normalised_all}
use Rattle.normaliser.proofs.normalise.Goals as goal
use Rattle.normaliser.proofs.normalise.Goals.{In_ok-t}

pub returns-in_err-t : goal.returns-in_err-t
returns-in_err-t c =
    let said = err_refused _ _ _ (sym c.read_by.ensures.0 ∙ c.in_err-t.was) in
    let p = err_from_is_err_and c.from_residual.result c.from_residual.ensures.1 in
    (p.1 ∙ ap Err (p.2 ∙ said.0) ∙ sym (refused _ tt said.1), sym (normalised-refused _ said.1))

-- what was read, where the loop goes on from
read : (c : In_ok-t) → Taken c.args.bytes.now c.in_ok-t.t
read c = taken _ _ (sym c.read_by.ensures.0 ∙ c.in_ok-t.was)

pub loop-i-init : goal.loop-i-init
unfolding closed_to
loop-i-init c = let r = read (goal.at.loop-i-init c).In_ok-t in (omega (arith, r.count, r.few), refl, refl)

pub put_closed-requires : goal.put_closed-requires
put_closed-requires c =
    let r = read (goal.at.put_closed-requires c).In_ok-t in
    let l = c.loop-i in
    let k = subst (λ (n : ℕ). l.i < n) r.count c.loop-i-test.true in
    (omega (arith, r.fits, l.invariant.1, k), subst (λ (x : Callback). x.used ≤ entry_places) (sym (r.slots l.i k)) (r.used l.i k))

pub loop-i-preserved : goal.loop-i-preserved
loop-i-preserved c =
    let p = c.put_closed in
    let l = c.loop-i in
    let r = read (goal.at.loop-i-preserved c).In_ok-t in
    let k = subst (λ (n : ℕ). l.i < n) r.count c.loop-i-test.true in
    let x = callback_at c.in_ok-t.t l.i in
    (l.invariant.0, p.auto.b ∙ l.invariant.1, p.ensures ∙ ap (λ (b : List ℕ). over b (record_start l.i + 12) (run 2 (closed (entries_of x)))) l.invariant.2 ∙ closed_more _ l.i x (r.slots l.i k))

pub returns : goal.returns
returns c =
    let l = c.loop-i in
    let r = read (goal.at.returns c).In_ok-t in
    (sym (passed (normalise_fault c.args.bytes.now) tt r.ok), l.invariant.2 ∙ ap (closed_to _) (omega (arith, r.count)) ∙ sym (normalised_all _ r.ok))
