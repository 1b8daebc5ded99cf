use mathlib.Core.Path.{sym, ap, ◌∙◌}
use Prim.Native.Nat.{ℕ, ◌+◌, ◌-◌}
use native.Mathlib.Omega.{arith}
use Rattle.table.specs.Values.{next_of}
use Rattle.link_rules.proofs.LoopLaws.{marks-over, marks_end, marks_more, known}
use Rattle.link_rules.specs.Parts.{marks}
use Rattle.link_rules.proofs.marked.Goals as goal

pub returns-then-at-eq0 : goal.returns-then-at-eq0
returns-then-at-eq0 c =
    let t = c.args.t in
    let l = c.loop in
    sym (marks-over (next_of t) t.count l.counter l.met) ∙ ap (λ (x : ℕ). marks (next_of t) (t.count - l.counter) x l.met) (sym c.if-at-eq0.true) ∙ l.invariant.1

pub loop-preserved : goal.loop-preserved
loop-preserved c =
    let t = c.args.t in
    let l = c.loop in
    let some = c.if-at-eq0.false in (
      known t c.requires.2 (l.at - 1) (omega (arith, l.invariant.0, some)),
      ap (marks (next_of t) (t.count - (l.counter + 1)) (next_of t (l.at - 1))) c.set_slot-met.ensures
          ∙ sym (marks_more (next_of t) t.count l.counter l.at l.met c.loop-test.true some)
          ∙ l.invariant.1,
    )

pub returns : goal.returns
returns c =
    let t = c.args.t in
    let l = c.loop in
    sym (marks_end (next_of t) t.count l.counter l.at l.met c.loop-test.false) ∙ l.invariant.1
