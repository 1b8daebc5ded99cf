-- The lent bytes that hold no state are just those on which every tick is refused with 29 (document 01, 'The sheet'). Assumes nothing.
-- none_held: on bytes that hold none the reply is 29 and no more, and they are kept. held: on bytes that hold one no reply is 29.
use mathlib.Core.Path.{◌≡◌, refl, sym, ap, ◌∙◌}
use mathlib.Core.Logic.{◌≢◌}
use mathlib.Core.Bool.{Bool, true, false, not, ◌&&◌}
use mathlib.Core.List.{List}
use Prim.Native.Nat.{ℕ}
use native.Mathlib.Omega.{arith}
use borrow.Author.Tests.{not-true, not-false}
use Rattle.ranges.proofs.EveryLaws.{and_holds}
use Rattle.std.specs.Result.{is_ok}
use Rattle.table.specs.Values.{refuse}
use Rattle.numbers.specs.Numbers.{faulty_state}
use Rattle.answers.specs.Outcome.{reply_of}
use Rattle.executor.specs.declared.Machine.{Machine}
use Rattle.executor.specs.declared.Ticked.{Ticked}
use Rattle.executor.specs.State.{faulty}
use Rattle.executor.specs.Tick.{refused, tick_of}
use Rattle.executor.proofs.TickLaws.{tick_faulty}
use Rattle.executor.proofs.TickCases.{below_faulty}
use Rattle.layout.specs.Layout.{laid_out, unpacked, holds_state}
use Rattle.layout.proofs.LayoutLaws.{laid}
use Rattle.cuorfelt.specs.Edge.{reply_to, no_state, is_set, tick_reply, state_ticked}
use Rattle.cuorfelt.proofs.EdgeLaws.{tick_none, tick_refused}
use Rattle.cuorfelt.proofs.Lent.{reply_number}

-- the reply of a refusal with 29
reply_faulty : (m : Machine) → reply_to (refused m (refuse faulty_state 0)) ≡ no_state
unfolding refused reply_of no_state
reply_faulty m = refl

refused_err : (m : Machine) → is_ok (refused m (refuse faulty_state 0)).outcome ≡ false
unfolding refused
refused_err m = refl

module _ (b : List ℕ) (mask supplied cost : ℕ) where
  pub none_held : holds_state b ≡ false → (tick_reply b mask supplied cost ≡ no_state) × (state_ticked b mask supplied cost ≡ b)
  unfolding holds_state no_state reply_of
  none_held h = go (laid_out b) refl
    where
      go : (x : Bool) → laid_out b ≡ x → (tick_reply b mask supplied cost ≡ no_state) × (state_ticked b mask supplied cost ≡ b)
      go false e = let p = tick_none b mask supplied cost e in (sym p.0, sym p.1)
      go true e =
          let p = tick_refused b mask supplied cost (laid b e) refl refl refl (ap (λ (x : Ticked). is_ok x.outcome) faulty_tick ∙ refused_err (unpacked b)) in
          (sym p.0 ∙ faulty_reply, sym p.1)
        where
          bad : faulty (unpacked b) ≡ true
          bad = not-false (faulty (unpacked b)) (ap (λ (x : Bool). x && not (faulty (unpacked b))) (sym e) ∙ h)

          faulty_tick : tick_of (unpacked b) mask (is_set supplied) cost ≡ refused (unpacked b) (refuse faulty_state 0)
          faulty_tick = sym (tick_faulty (unpacked b) mask (is_set supplied) cost (sym bad))

          faulty_reply : reply_to (tick_of (unpacked b) mask (is_set supplied) cost) ≡ no_state
          faulty_reply = ap reply_to faulty_tick ∙ reply_faulty (unpacked b)

  pub held : holds_state b ≡ true → (tick_reply b mask supplied cost).number ≢ faulty_state
  unfolding holds_state tick_reply
  held h =
      let p = and_holds (laid_out b) (not (faulty (unpacked b))) h in
      let x : Ticked = tick_of (unpacked b) mask (is_set supplied) cost in
      λ z. omega (arith, below_faulty (unpacked b) mask (is_set supplied) cost (not-true _ p.1), reply_number x, rw (p.0, tick_reply) at z)
