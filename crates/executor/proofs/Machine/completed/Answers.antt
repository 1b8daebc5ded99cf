-- An index from 1 is that of a slot; it leaves its waiting count, its next comes, and it has finished once more.
use mathlib.Core.Path.{sym, subst, ◌∙◌}
use Prim.Native.Nat.{ℕ, ◌-◌, ◌≤◌}
use native.Mathlib.Omega.{arith}
use Rattle.numbers.specs.Numbers.{places}
use Rattle.table.proofs.MaskLaws.{next_some}
use Rattle.executor.proofs.EffectLaws.{completed-none, completed-some}
use Rattle.executor.proofs.Machine.completed.Goals as goal

pub returns-then-index-eq0 : goal.returns-then-index-eq0
returns-then-index-eq0 c = completed-none c.args.self _ c.if-index-eq0.true

pub next_after-next-requires : goal.next_after-next-requires
next_after-next-requires c = omega (arith, (c.requires (c.args.index - 1) (omega arith)).inside)

pub instance-requires : goal.instance-requires
instance-requires c i e = (let a = c.requires i e in (a.inside, a.counted))

pub bounds-m-slot : goal.bounds-m-slot
bounds-m-slot c = (c.requires (c.args.index - 1) (omega arith)).inside

pub complete-m-requires : goal.complete-m-requires
complete-m-requires c =
    let a = c.requires (c.args.index - 1) (omega arith) in
    (a.inside, subst (λ (x : ℕ). x ≤ places) (next_some c.args.self.table _ c.if-index-eq0.false ∙ sym c.next_after-next.ensures) a.linked, a.waits, a.room)

pub returns : goal.returns
returns c = completed-some c.args.self _ _ _ _ c.if-index-eq0.false c.next_after-next.ensures c.instance.ensures c.complete-m.ensures
