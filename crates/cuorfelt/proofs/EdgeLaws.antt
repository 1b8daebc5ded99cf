-- What the exported functions are made of, test by test. Assumes nothing.
-- start_short, start_size, start_refused, start_done, start_new: a start. tick_none, tick_refused, tick_done: a tick.
use mathlib.Core.Path.{◌≡◌, sym, ap, ◌∙◌, subst}
use mathlib.Core.Logic.{◌≢◌}
use mathlib.Core.Bool.{true, false}
use mathlib.Core.List.{List, ◌++◌}
use Prim.Native.Nat.{ℕ, ◌<◌, ◌≤◌, ◌-◌}
use native.Mathlib.Omega.{arith}
use lib.ListN.{length, get_or, replicate, length-replicate, length-append}
use borrow.Author.Tests.{eq-eqb, ne_eqb, eqb-true, eqb-false}
use lib.Dec.{eqb}
use Rattle.std.specs.Result.{is_ok}
use Rattle.lent.specs.Over.{over}
use Rattle.lent.proofs.Replace.{over-over, over_all}
use Rattle.table.specs.declared.Refusal.{Refusal}
use Rattle.table.specs.declared.Table.{Table}
use Rattle.numbers.specs.Numbers.{places, faulty_state}
use Rattle.table.specs.Values.{refuse, accepted}
use Rattle.reader.specs.Format.{read_fault}
use Rattle.reader.proofs.Accepted.{zero_by, passed_by, reading_is, read_table, read_passed}
use Rattle.executor.specs.declared.Machine.{Machine}
use Rattle.answers.specs.declared.Reply.{Reply}
use Rattle.executor.specs.declared.Ticked.{Ticked}
use Rattle.answers.specs.Outcome.{reply_of}
use Rattle.executor.specs.State.{fresh}
use Rattle.executor.specs.Start.{start_of}
use Rattle.executor.specs.Tick.{tick_of}
use Rattle.executor.proofs.TickCases.{number_in, tick_is_ok, tick_table}
use Rattle.layout.specs.Layout.{state_length, tail_start, laid_out, unpacked, packed_tail, packed}
use Rattle.layout.proofs.LayoutLaws.{Laid, laid_out_lem, packed-fresh, packed-over}
use Rattle.cuorfelt.specs.Edge.{start_fault, state_started, reply_to, no_state, is_set, tick_reply, state_ticked}

-- ---- a start, of a table's bytes b in lent bytes s

module _ (b : List ℕ) (h : (start_of b).refusal.number ≡ 0) where
  start_accepts : (read_fault b).number ≡ 0
  unfolding start_of
  start_accepts = ap (λ (r : Refusal). r.number) (sym (reading_is b)) ∙ h

  pub start_size : length b ≤ tail_start
  start_size = omega (arith, (read_passed b start_accepts).fits, (read_passed b start_accepts).head.few)

module _ (b s : List ℕ) where
  fault_short : length s ≢ state_length → start_fault b s ≡ refuse faulty_state 0
  unfolding start_fault
  fault_short h = rw (ne_eqb (length s) state_length h, start_fault)

  fault_long : length s ≡ state_length → start_fault b s ≡ (start_of b).refusal
  unfolding start_fault
  fault_long h = rw (eq-eqb (length s) state_length h, start_fault)

  state_kept : (start_fault b s).number ≢ 0 → s ≡ state_started b s
  unfolding state_started
  state_kept h = rw (ne_eqb (start_fault b s).number 0 h, state_started)

  state_new : (start_fault b s).number ≡ 0 → state_started b s ≡ packed (start_of b).machine
  unfolding state_started
  state_new h = rw (eq-eqb (start_fault b s).number 0 h, state_started)

  -- an accepted start: the fresh state
  pub start_new : length s ≡ state_length → (read_fault b).number ≡ 0 → state_started b s ≡ packed (start_of b).machine
  unfolding start_of
  start_new long ok = state_new (ap (λ (r : Refusal). r.number) (fault_long long ∙ reading_is b) ∙ ok)

  pub start_short : length s ≢ state_length → (refuse faulty_state 0 ≡ start_fault b s) × (s ≡ state_started b s)
  start_short h =
      let e : refuse faulty_state 0 ≡ start_fault b s = sym (fault_short h) in
      (e, state_kept (λ z. omega (arith, ap (λ (r : Refusal). r.number) e ∙ z)))

  module _ (long : length s ≡ state_length) where
    fault_is : (start_of b).refusal ≡ start_fault b s
    fault_is = sym (fault_long long)

    pub start_refused : (start_of b).refusal.number ≢ 0 → ((start_of b).refusal ≡ start_fault b s) × (s ≡ state_started b s)
    start_refused h = (fault_is, state_kept (λ z. h (ap (λ (r : Refusal). r.number) fault_is ∙ z)))

    pub start_done : {s1 s2 : List ℕ} → (start_of b).refusal.number ≡ 0 → ((i : ℕ) → get_or b i 0 < 256)
        → s1 ≡ over s 0 b → s2 ≡ over s1 (length b) (replicate (state_length - length b) 0)
        → (accepted ≡ start_fault b s) × (s2 ≡ state_started b s)
    unfolding start_of
    start_done h bytes e1 e2 =
        let rest : List ℕ = replicate (state_length - length b) 0 in
        let n : length rest ≡ state_length - length b = length-replicate (state_length - length b) 0 in
        let small : length b ≤ tail_start = start_size b h in
        let ok : (read_fault b).number ≡ 0 = start_accepts b h in (
          sym (zero_by true b (passed_by true b ok)) ∙ sym (reading_is b) ∙ fault_is,
          e2
              ∙ ap (λ (y : List ℕ). over y (length b) rest) e1
              ∙ over-over s 0 b rest (length b) (omega arith) (omega arith)
              ∙ over_all s (b ++ rest) (omega (arith, length-append b rest))
              ∙ sym (packed-fresh b bytes ok)
              ∙ ap (λ (t : Table). packed (fresh t)) (sym (read_table b ok))
              ∙ sym (start_new long ok),
        )

-- ---- a tick on lent bytes b

module _ (b : List ℕ) (mask supplied cost : ℕ) where
  same : (tick_reply b mask supplied cost).number ≢ 0 → b ≡ state_ticked b mask supplied cost
  unfolding state_ticked
  same h = rw (ne_eqb (tick_reply b mask supplied cost).number 0 h, state_ticked)

  pub tick_none : laid_out b ≡ false → (no_state ≡ tick_reply b mask supplied cost) × (b ≡ state_ticked b mask supplied cost)
  unfolding tick_reply no_state reply_of
  tick_none f =
      let e : no_state ≡ tick_reply b mask supplied cost = rw (f, tick_reply) in
      (e, same (λ z. omega (arith, ap (λ (r : Reply). r.number) e ∙ z)))

  module _ {m : Machine} {x : Ticked} {r : Reply} (l : Laid b) (em : m ≡ unpacked b) (ex : x ≡ tick_of m mask (is_set supplied) cost) (er : r ≡ reply_to x) where
    ticked_is : x ≡ tick_of (unpacked b) mask (is_set supplied) cost
    ticked_is = ex ∙ ap (λ (y : Machine). tick_of y mask (is_set supplied) cost) em

    pub reply_is : r ≡ tick_reply b mask supplied cost
    unfolding tick_reply
    reply_is = er ∙ ap reply_to ticked_is ∙ rw (laid_out_lem b l, tick_reply)

    -- the reply has number 0 where the tick is answered
    number_is : is_ok x.outcome ≡ eqb r.number 0
    unfolding reply_of
    number_is =
        subst (λ (y : Ticked). is_ok y.outcome ≡ eqb (number_in y) 0) (sym ex) (tick_is_ok m mask (is_set supplied) cost)
        ∙ ap (λ (y : Reply). eqb y.number 0) (sym er)

    pub tick_refused : is_ok x.outcome ≡ false → (r ≡ tick_reply b mask supplied cost) × (b ≡ state_ticked b mask supplied cost)
    tick_refused f = (reply_is, same (λ z. eqb-false r.number 0 (sym number_is ∙ f) (ap (λ (y : Reply). y.number) reply_is ∙ z)))

    pub tick_done : {s : List ℕ} → ((i : ℕ) → get_or b i 0 < 256) → is_ok x.outcome ≡ true → s ≡ over b tail_start (packed_tail x.machine)
        → length x.machine.waiting ≡ places → length x.machine.finished ≡ places
        → (r ≡ tick_reply b mask supplied cost) × (s ≡ state_ticked b mask supplied cost)
    unfolding state_ticked
    tick_done bytes done es w f =
        let h : r.number ≡ 0 = eqb-true r.number 0 (sym number_is ∙ done) in
        let table : x.machine.table ≡ (unpacked b).table = ap (λ (y : Ticked). y.machine.table) ticked_is ∙ tick_table (unpacked b) mask (is_set supplied) cost in (
          reply_is,
          es
              ∙ sym (packed-over b bytes l x.machine table w f)
              ∙ ap (λ (y : Ticked). packed y.machine) ticked_is
              ∙ rw (eq-eqb (tick_reply b mask supplied cost).number 0 (ap (λ (y : Reply). y.number) (sym reply_is) ∙ h), state_ticked),
        )
