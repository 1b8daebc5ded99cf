-- A history whose state is handed on in the lent bytes gives the replies of one whose state is handed on by value, tick by tick, refusals and
-- faults too; and a reply stands for its outcome. Assumes nothing.
-- outcome_back, flag_back: the outcome and the flags behind the numbers. called, replies_from: a tick and a history by value.
-- same_replies: from any state that ticks leave. lent_replies: from a start.
use mathlib.Core.Path.{◌≡◌, refl, sym, ap, ap₂, ◌∙◌, subst}
use mathlib.Core.Bool.{Bool, true, false}
use mathlib.Core.List.{List, [], ◌∷◌}
use Prim.Native.Nat.{ℕ, ◌+◌, ◌≤◌, ◌<◌}
use native.Mathlib.Omega.{arith}
use lib.Dec.{eqb}
use lib.ListN.{length, get_or, get_or-replicate}
use borrow.Author.Tests.{eqb-false}
use Rattle.std.specs.Prelude.{Err, Ok}
use Rattle.numbers.specs.Numbers.{places, most_ticks, most_waiting}
use Rattle.folding.specs.Folding.{kept}
use Rattle.ranges.proofs.EveryLaws.{or_fails}
use Rattle.ranges.proofs.SumLaws.{given-le, hit-le}
use Rattle.table.specs.declared.Table.{Table}
use Rattle.reader.specs.Format.{read_fault, table_at}
use Rattle.reader.proofs.Accepted.{read_table}
use Rattle.reader.proofs.WrittenLaws.{Writable, writable_read}
use Rattle.answers.specs.declared.Answer.TheVariants.{NoSupply, Idle, Ran, Finished}
use Rattle.answers.specs.declared.Reply.{Reply}
use Rattle.answers.specs.Outcome.{Outcome, flag, reply_of}
use Rattle.executor.specs.declared.Machine.{Machine}
use Rattle.executor.specs.declared.Ticked.{Ticked}
use Rattle.executor.specs.State.{fresh, faulty, state_fault}
use Rattle.executor.specs.Effect.{effect}
use Rattle.executor.specs.Tick.{refused, tick_of, next_activated}
use Rattle.executor.specs.Start.{start_of}
use Rattle.executor.specs.Parts.{Valid, Room}
use Rattle.executor.proofs.ValidLaws.{valid_of, fresh_valid}
use Rattle.executor.proofs.StartLaws.{read_faultless}
use Rattle.executor.proofs.Steps.{steps}
use Rattle.executor.proofs.TickCases.{Passed, tick_cases, tick_table, number_in, refused_keeps}
use Rattle.faults.specs.Faults.{table_fault}
use Rattle.lent.specs.Parts.{Fit}
use Rattle.layout.specs.Layout.{state_length, packed, tail_fields, tail_numbers}
use Rattle.layout.proofs.LayoutLaws.{cache_small, fit_tail, laid_packed, unpacked-packed}
use Rattle.cuorfelt.specs.Edge.{state_started, reply_to, is_set, tick_reply, state_ticked}
use Rattle.cuorfelt.specs.Lent.{Call, replies_in, outcome_in}
use Rattle.cuorfelt.proofs.EdgeLaws.{start_new}

-- ---- what the numbers stand for

pub outcome_back : (o : Outcome) (started polled : Bool) (gathered folded : ℕ) → outcome_in (reply_of o started polled gathered folded) ≡ o
unfolding outcome_in reply_of
outcome_back (Err r) started polled gathered folded = refl
outcome_back (Ok NoSupply) started polled gathered folded = refl
outcome_back (Ok Idle) started polled gathered folded = refl
outcome_back (Ok (Ran i k)) started polled gathered folded = refl
outcome_back (Ok (Finished i k)) started polled gathered folded = refl

pub flag_back : (b : Bool) → is_set (flag b) ≡ b
flag_back true = refl
flag_back false = refl

pub reply_number : (x : Ticked) → (reply_to x).number ≡ number_in x
unfolding reply_of
reply_number x = refl

-- ---- a state that ticks leave

-- one tick by value
abbrev pub called : Machine → Call → Ticked
called m x = tick_of m x.mask (is_set x.supplied) x.cost

-- a history, the state handed on by value
unfoldable pub replies_from : Machine → List Call → List Reply
replies_from m [] = []
replies_from m (x ∷ h) = reply_to (called m x) ∷ replies_from (called m x).machine h

-- a state without faults, but for counts to which one tick added an arrival and an activation; its numbers fit their fields
pub record Reached (m : Machine) : Type 0 where
  pub valid : Valid m
  pub room : Room (most_waiting + 2) m
  pub taken : m.clock ≤ most_ticks

pub fits : (m : Machine) → Reached m → Fit tail_fields (tail_numbers m)
fits m l = fit_tail m l.valid (λ i h. omega (arith, l.room i h)) (omega (arith, l.taken))

reached_ticked : (m : Machine) → Reached m → (x : Call) → Reached (called m x).machine
unfolding refused faulty
reached_ticked m l x = tick_cases m x.mask (is_set x.supplied) x.cost (λ o. Reached o.machine) done (λ h. l)
  where
    done : Passed m x.mask x.cost → Reached (effect m x.mask (is_set x.supplied) x.cost).machine
    done p =
        let s = steps m l.valid x.mask x.cost p.priced p.heads (is_set x.supplied) in
        let o = effect m x.mask (is_set x.supplied) x.cost in
        let right = or_fails (table_fault m.table) (state_fault m) p.right in
        let room = (valid_of m l.valid.sized (cache_small m l.valid) right.0 right.1).1 in
        record {
          valid = s.valid;
          room = λ i h. omega (arith, s.queue i h, room i h, given-le (kept x.mask o.folded i) 1, hit-le (next_activated m.table o.outcome) i);
          taken = omega (arith, s.clock, p.early);
        }

-- ---- one tick on the bytes of such a state

module _ (m : Machine) (l : Reached m) (w : Writable m.table) (x : Call) where
  reply_same : tick_reply (packed m) x.mask x.supplied x.cost ≡ reply_to (called m x)
  unfolding tick_reply
  reply_same = rw (laid_packed m (fits m l) w, tick_reply) (ap (λ (y : Machine). reply_to (called y x)) (unpacked-packed m (fits m l) w))

  state_same : state_ticked (packed m) x.mask x.supplied x.cost ≡ packed (called m x).machine
  unfolding state_ticked
  state_same = go (eqb (tick_reply (packed m) x.mask x.supplied x.cost).number 0) refl
    where
      go : (b : Bool) → eqb (tick_reply (packed m) x.mask x.supplied x.cost).number 0 ≡ b
          → state_ticked (packed m) x.mask x.supplied x.cost ≡ packed (called m x).machine
      go true e = rw (e, state_ticked) (ap (λ (y : Machine). packed (called y x).machine) (unpacked-packed m (fits m l) w))
      go false e =
          rw (e, state_ticked)
          (ap packed (sym (refused_keeps m x.mask (is_set x.supplied) x.cost (λ z. eqb-false _ 0 e (ap (λ (s : Reply). s.number) reply_same ∙ reply_number (called m x) ∙ z)))))

-- ---- a history

pub same_replies : (m : Machine) → Reached m → Writable m.table → (h : List Call) → replies_in (packed m) h ≡ replies_from m h
unfolding replies_in replies_from
same_replies m l w [] = refl
same_replies m l w (x ∷ h) =
    ap₂ ◌∷◌
    (reply_same m l w x)
    (ap (λ (s : List ℕ). replies_in s h) (state_same m l w x)
    ∙ same_replies (called m x).machine (reached_ticked m l x) (subst Writable (sym (tick_table m x.mask (is_set x.supplied) x.cost)) w) h)

fresh_replies : (t : Table) → table_fault t ≡ false → Writable t → (h : List Call) → replies_in (packed (fresh t)) h ≡ replies_from (fresh t) h
unfolding fresh
fresh_replies t ok w h =
    same_replies (fresh t) (record { valid = fresh_valid t ok; room = λ i l. omega (arith, get_or-replicate {A = ℕ} places i 0 0 l); taken = omega arith }) w h

-- from a start that the reader accepts, in lent bytes of a state's length
pub lent_replies : (b state : List ℕ) → ((i : ℕ) → get_or b i 0 < 256) → length state ≡ state_length → (read_fault b).number ≡ 0 → (h : List Call)
    → replies_in (state_started b state) h ≡ replies_from (start_of b).machine h
unfolding start_of
lent_replies b state bytes size ok h =
    let t : Table = table_at b in
    let fresh-is : (start_of b).machine ≡ fresh t = ap fresh (read_table b ok) in
    ap (λ (s : List ℕ). replies_in s h) (start_new b state size ok ∙ ap packed fresh-is)
    ∙ fresh_replies t (read_faultless b ok) (writable_read b ok) h
    ∙ ap (λ (m : Machine). replies_from m h) (sym fresh-is)
