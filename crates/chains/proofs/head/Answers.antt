use mathlib.Core.Path.{sym, ap, ◌∙◌}
use Prim.Native.Nat.{ℕ, ◌-◌, ◌+◌}
use native.Mathlib.Omega.{arith}
use Rattle.masks.proofs.Index.{is_some, not_some}
use Rattle.chains.proofs.ChainLaws.{feeder-le, head_start, head_top, head_up, head_end}
use Rattle.chains.specs.Chains.{feeder, head_from}
use Rattle.chains.proofs.head.Goals as goal

pub loop-step-init : goal.loop-step-init
loop-step-init c = (omega (arith, c.requires), head_start c.args.t _)

pub returns-in_default : goal.returns-in_default
returns-in_default c =
    let t = c.args.t in
    let l = c.loop-step in
    let top = not_some (feeder t l.x) _ (c.feeders-by.ensures l.x l.invariant.0) c.in_default.not-Some in
    sym (sym l.invariant.1 ∙ head_top t t.count l._step l.x c.loop-step-test.true top)

pub loop-step-preserved : goal.loop-step-preserved
loop-step-preserved c =
    let t = c.args.t in
    let l = c.loop-step in
    let fed = is_some (feeder t l.x) c.in-Some.p (sym c.in-Some.is ∙ c.feeders-by.ensures l.x l.invariant.0) in (
      omega (arith, fed.0, feeder-le t l.x, c.requires),
      ap (λ (p : ℕ). head_from t (t.count - (l._step + 1)) (p - 1)) (sym fed.0)
          ∙ sym (head_up t t.count l._step l.x c.loop-step-test.true fed.1)
          ∙ l.invariant.1,
    )

pub returns : goal.returns
returns c =
    let t = c.args.t in
    let l = c.loop-step in
    sym (sym l.invariant.1 ∙ head_end t t.count l._step l.x c.loop-step-test.false)
