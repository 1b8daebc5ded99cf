-- `check_links` meets its contract: 11 to 14 in their order, each with the lowest callback. Assumes nothing.
use mathlib.Core.Path.{◌≡◌, sym, ap, ◌∙◌}
use mathlib.Core.Logic.{◌≢◌}
use mathlib.Core.Bool.{◌&&◌}
use Prim.Native.Nat.{ℕ}
use lib.Dec.{eqb, leb}
use Rattle.std.specs.Prelude.{Result, Err}
use Rattle.masks.proofs.Index.{is_none, is_some}
use Rattle.ranges.specs.Least.{lowest}
use Rattle.numbers.specs.Numbers
use Rattle.table.specs.declared.Refusal.{Refusal}
use Rattle.table.specs.declared.Table.{Table}
use Rattle.table.specs.Values.{refuse, accepted, unless, callback_at, kind_of}
use Rattle.table.specs.Links.{named, is_head, on_loop}
use Rattle.link_rules.specs.LinkRules.{arrivals_fault, links_fault}
use Rattle.table.proofs.RefusalLaws.{lowest-refused, lowest_passed}
use Rattle.link_rules.proofs.LinkLaws.{twice_law, timer_law, wrong_law}
use Rattle.link_rules.proofs.LoopLaws.{looped_law}
use Rattle.link_rules.proofs.check_links.Goals as goal
use Rattle.link_rules.proofs.check_links.Goals.{Start}

-- the callback that each refusal names
module _ (t : Table) where
  abbrev twice : ℕ
  twice = lowest (λ i. leb 2 (named t i)) t.count

  abbrev timers : ℕ
  timers = lowest (λ i. leb 1 (named t i) && eqb (kind_of t i) Numbers.timer) t.count

  abbrev looped : ℕ
  looped = lowest (on_loop t) t.count

  abbrev wrong : ℕ
  wrong = lowest (λ i. arrivals_fault (is_head t i) (callback_at t i)) t.count

  -- the first of them that there is
  first_twice : (x : ℕ) → x ≢ 0 → x ≡ twice → links_fault t ≡ refuse 11 x
  unfolding links_fault
  first_twice x some e = lowest-refused _ _ _ (λ z. some (e ∙ z)) ∙ ap (refuse 11) (sym e)

  module _ (none_twice : twice ≡ 0) where
    first_timer : (x : ℕ) → x ≢ 0 → x ≡ timers → links_fault t ≡ refuse 12 x
    unfolding links_fault
    first_timer x some e = lowest_passed _ _ _ none_twice ∙ lowest-refused _ _ _ (λ z. some (e ∙ z)) ∙ ap (refuse 12) (sym e)

    module _ (none_timers : timers ≡ 0) where
      first_loop : (x : ℕ) → x ≢ 0 → x ≡ looped → links_fault t ≡ refuse 13 x
      unfolding links_fault
      first_loop x some e = lowest_passed _ _ _ none_twice ∙ lowest_passed _ _ _ none_timers ∙ lowest-refused _ _ _ (λ z. some (e ∙ z)) ∙ ap (refuse 13) (sym e)

      module _ (none_looped : looped ≡ 0) where
        first_arrivals : (x : ℕ) → x ≢ 0 → x ≡ wrong → links_fault t ≡ refuse 14 x
        unfolding links_fault
        first_arrivals x some e =
            lowest_passed _ _ _ none_twice ∙ lowest_passed _ _ _ none_timers ∙ lowest_passed _ _ _ none_looped ∙ lowest-refused _ _ _ (λ z. some (e ∙ z)) ∙ ap (refuse 14) (sym e)

        none : wrong ≡ 0 → links_fault t ≡ accepted
        unfolding links_fault
        none e = lowest_passed _ _ _ none_twice ∙ lowest_passed _ _ _ none_timers ∙ lowest_passed _ _ _ none_looped ∙ lowest_passed _ _ _ e

-- what is given where a refusal is known
abbrev because : Refusal → Result (Unit {0}) Refusal
because r = unless r tt

pub returns-in-Some : goal.returns-in-Some
returns-in-Some c =
    let e = is_some _ _ (sym c.in-Some.is ∙ c.lowest_index.ensures) in
    let found = twice_law _ c.requires.0 _ c.named-names.ensures _ (sym e.0) in
    ap Err c.at.ensures ∙ ap because (sym (first_twice _ _ (λ z. e.1 (e.0 ∙ z)) found))

pub returns-in-Some-lowest_index : goal.returns-in-Some-lowest_index
returns-in-Some-lowest_index c =
    let no_twice = twice_law _ c.requires.0 _ c.named-names.ensures _ (sym (is_none _ (sym c.in_default.is ∙ c.lowest_index.ensures))) in
    let e = is_some _ _ (sym c.in-Some-lowest_index.is ∙ c.lowest_index-2.ensures) in
    let found = timer_law _ c.requires.0 _ c.named-names.ensures _ c.by_kind.ensures _ (sym e.0) in
    ap Err c.at-in-Some-lowest_index.ensures ∙ ap because (sym (first_timer _ (sym no_twice) _ (λ z. e.1 (e.0 ∙ z)) found))

pub returns-in-Some-lowest_index-2 : goal.returns-in-Some-lowest_index-2
returns-in-Some-lowest_index-2 c =
    let no_twice = twice_law _ c.requires.0 _ c.named-names.ensures _ (sym (is_none _ (sym c.in_default.is ∙ c.lowest_index.ensures))) in
    let no_timer = timer_law _ c.requires.0 _ c.named-names.ensures _ c.by_kind.ensures _ (sym (is_none _ (sym c.in_default-lowest_index.is ∙ c.lowest_index-2.ensures))) in
    let e = is_some _ _ (sym c.in-Some-lowest_index-2.is ∙ c.lowest_index-3.ensures) in
    let found = looped_law _ c.requires.0 c.requires.1 _ c.named-names.ensures (sym no_twice) _ c.others-heads.ensures _ c.reached.ensures _ c.others.ensures _ (sym e.0) in
    ap Err c.at-in-Some-lowest_index-2.ensures ∙ ap because (sym (first_loop _ (sym no_twice) (sym no_timer) _ (λ z. e.1 (e.0 ∙ z)) found))

pub returns-in-Some-first_wrong : goal.returns-in-Some-first_wrong
returns-in-Some-first_wrong c =
    let no_twice = twice_law _ c.requires.0 _ c.named-names.ensures _ (sym (is_none _ (sym c.in_default.is ∙ c.lowest_index.ensures))) in
    let no_timer = timer_law _ c.requires.0 _ c.named-names.ensures _ c.by_kind.ensures _ (sym (is_none _ (sym c.in_default-lowest_index.is ∙ c.lowest_index-2.ensures))) in
    let no_loop = looped_law _ c.requires.0 c.requires.1 _ c.named-names.ensures (sym no_twice) _ c.others-heads.ensures _ c.reached.ensures _ c.others.ensures _ (sym (is_none _ (sym c.in_default-lowest_index-2.is ∙ c.lowest_index-3.ensures))) in
    let e = is_some _ _ (sym c.in-Some-first_wrong.is ∙ c.first_wrong.ensures) in
    let found = wrong_law _ c.requires.0 _ c.named-names.ensures _ c.others-heads.ensures _ (sym e.0) in
    ap Err c.at-in-Some-first_wrong.ensures ∙ ap because (sym (first_arrivals _ (sym no_twice) (sym no_timer) (sym no_loop) _ (λ z. e.1 (e.0 ∙ z)) found))

pub returns : goal.returns
returns c =
    let no_twice = twice_law _ c.requires.0 _ c.named-names.ensures _ (sym (is_none _ (sym c.in_default.is ∙ c.lowest_index.ensures))) in
    let no_timer = timer_law _ c.requires.0 _ c.named-names.ensures _ c.by_kind.ensures _ (sym (is_none _ (sym c.in_default-lowest_index.is ∙ c.lowest_index-2.ensures))) in
    let no_loop = looped_law _ c.requires.0 c.requires.1 _ c.named-names.ensures (sym no_twice) _ c.others-heads.ensures _ c.reached.ensures _ c.others.ensures _ (sym (is_none _ (sym c.in_default-lowest_index-2.is ∙ c.lowest_index-3.ensures))) in
    let no_wrong = wrong_law _ c.requires.0 _ c.named-names.ensures _ c.others-heads.ensures _ (sym (is_none _ (sym c.in_default-first_wrong.is ∙ c.first_wrong.ensures))) in
    ap because (sym (none _ (sym no_twice) (sym no_timer) (sym no_loop) (sym no_wrong)))
