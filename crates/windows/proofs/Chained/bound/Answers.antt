use mathlib.Core.Path.{◌≡◌, refl, sym, ap, ap₂, ◌∙◌}
use Prim.Native.Nat.{ℕ, ◌+◌, ◌-◌, ◌≤◌, ◌<◌, max}
use native.Mathlib.Omega.{arith}
use Rattle.ranges.specs.Least.{largest}
use Rattle.ranges.proofs.LeastLaws.{largest_more}
use Rattle.numbers.specs.Numbers.{longest}
use Rattle.windows.proofs.TableLaws.{costed}
use Rattle.windows.proofs.PartLaws.{head_within, head_spaced, arrivals_of_lem, work_of_lem}
use Rattle.windows.proofs.SearchLaws.{finish_in_lem, finish_hit, finish_jump, finish_next, bound_start, bound_skip, bound_is, bound_in_lem}
use Rattle.windows.specs.declared.Level.{Level}
use Rattle.windows.specs.Bounds.{window_in}
use Rattle.windows.specs.Parts.{demand_in, finish_in, reach_of}
use Rattle.windows.proofs.Chained.bound.Goals as goal
use Rattle.windows.proofs.Chained.bound.Goals.{After-reach-next as AtJump, then-charged-count+then-next-length, else-charged-count}

-- F of the offset at hand
abbrev F : AtJump → ℕ
F c = finish_in c.args.self.now.table c.args.level c.args.x c.loop-offset.offset

-- it is no longer than the window, and no jump goes past it
within : (c : AtJump) → (F c ≤ longest) × (c.reach-next.result ≤ F c)
within c =
    let self = c.args.self.now in
    let t = self.table in
    let level = c.args.level in
    let x = c.args.x in
    let A = c.loop-offset.offset in
    let e : A < window_in t level = omega (arith, c.loop-offset-test.true, c.requires.2) in (
      omega (arith, (finish_in_lem t self.heads self.headed level x A e).1, c.requires.2, c.requires.3),
      finish_jump t self.heads self.headed level x A e c.requires.0 c.requires.1 c.loop-length.length _ _ _
          c.loop-length.invariant.1 c.loop-length.invariant.0
          (c.work-own.ensures.0 ∙ work_of_lem t x _ (A + 1) (self.headed.headed _ c.requires.0))
          (c.loop-length.invariant.2 ∙ ap (λ (v : Level). demand_in t v c.loop-length.length) c.without-rest.ensures)
          (c.reach-next.ensures ∙ ap (λ (k : ℕ). reach_of t k (c.work-own.result + c.loop-length.others)) c.requires.2),
    )

pub bounds-self-head : goal.bounds-self-head
bounds-self-head c = head_within _ _ c.args.self.now.headed _ c.requires.0

pub loop-offset-init : goal.loop-offset-init
unfolding largest
loop-offset-init c =
    let self = c.args.self.now in (
      omega arith,
      (λ l. (finish_in_lem self.table self.heads self.headed c.args.level c.args.x 0 l).0),
      c.demand-others.ensures.0,
      c.demand-others.ensures.1,
      bound_start self.table self.heads self.headed c.args.level c.args.x,
      refl,
    )

pub arrivals-charged-requires : goal.arrivals-charged-requires
arrivals-charged-requires c = (head_spaced _ _ c.args.self.now.headed _ c.requires.0, omega (arith, c.loop-offset-test.true, c.requires.3))

pub work-own-requires : goal.work-own-requires
work-own-requires c =
    let headed = c.args.self.now.headed in
    (costed _ headed.sound _ c.requires.0, head_spaced _ _ headed _ c.requires.0, omega (arith, c.loop-offset-test.true, c.requires.3))

pub demand-others-requires-in-loop-length : goal.demand-others-requires-in-loop-length
demand-others-requires-in-loop-length c = omega (arith, within (goal.at.demand-others-requires-in-loop-length c).After-reach-next)

pub loop-length-smaller : goal.loop-length-smaller
loop-length-smaller c = omega (arith, c.if-next-length.false, within (goal.at.loop-length-smaller c).After-reach-next)

pub loop-length-preserved : goal.loop-length-preserved
loop-length-preserved c =
    (omega (arith, c.if-next-length.false), (within (goal.at.loop-length-preserved c).After-reach-next).1, c.demand-others-in-loop-length.ensures.0, c.demand-others-in-loop-length.ensures.1)

pub loop-offset-preserved : goal.loop-offset-preserved
loop-offset-preserved c =
    let self = c.args.self.now in
    let t = self.table in
    let level = c.args.level in
    let x = c.args.x in
    let A = c.loop-offset.offset in
    let inv = c.loop-offset.invariant in
    let e : A < window_in t level = omega (arith, c.loop-offset-test.true, c.requires.2) in
    let many = c.arrivals-charged.ensures.0 ∙ arrivals_of_lem t x _ (A + 1) (self.headed.headed _ c.requires.0) in
    elim c.if-charged-count.branch [
      | then-charged-count+then-next-length w ↦
          let f : w.loop-length.length ≡ finish_in t level x A =
          finish_hit t self.heads self.headed level x A e c.requires.0 c.requires.1 w.loop-length.length _ _ _
          w.loop-length.invariant.1 w.loop-length.invariant.0
          (w.work-own.ensures.0 ∙ work_of_lem t x _ (A + 1) (self.headed.headed _ c.requires.0))
          (w.loop-length.invariant.2 ∙ ap (λ (v : Level). demand_in t v w.loop-length.length) c.without-rest.ensures)
          (w.reach-next.ensures ∙ ap (λ (k : ℕ). reach_of t k (w.work-own.result + w.loop-length.others)) c.requires.2)
          w.if-next-length.true in (
            omega (arith, w.length-is, w.loop-length.invariant.0),
            (λ l. omega (arith, w.length-is, w.loop-length.invariant.1, finish_next t self.heads self.headed level x A l)),
            w.others-is ∙ w.loop-length.invariant.2 ∙ ap (demand_in t c.without-rest.result) (sym w.length-is),
            omega (arith, w.others-is, w.loop-length.invariant.3),
            w.count-is ∙ many,
            w.worst-is ∙ w.max-worst.ensures ∙ ap₂ max inv.5 (w.saturating_sub.ensures ∙ ap (λ (b : ℕ). b - A) f) ∙ largest_more (λ B. finish_in t level x B - B) A,
          )
      | else-charged-count w ↦
          let same = sym many ∙ w.if-charged-count.false in (
            omega (arith, w.length-is, inv.0),
            (λ l. omega (arith, w.length-is, inv.1 e, finish_next t self.heads self.headed level x A l)),
            w.others-is ∙ inv.2 ∙ ap (demand_in t c.without-rest.result) (sym w.length-is),
            omega (arith, w.others-is, inv.3),
            w.count-is ∙ sym same,
            w.worst-is ∙ bound_skip t self.heads self.headed level x A _ c.requires.0 c.requires.1 (same ∙ inv.4) inv.5,
          )
    ]

pub returns : goal.returns
returns c =
    let self = c.args.self.now in
    let t = self.table in
    let level = c.args.level in
    let x = c.args.x in
    let e : c.loop-offset.offset ≡ window_in t level = omega (arith, c.loop-offset.auto.offset-end, c.loop-offset-test.false, c.requires.2) in
    let r = c.loop-offset.invariant.5 ∙ ap (λ (k : ℕ). largest k (λ A. finish_in t level x A - A)) e ∙ sym (bound_is t self.heads self.headed level x) in
    (r, omega (arith, r, bound_in_lem t self.heads self.headed level x, c.requires.2, c.requires.3))
