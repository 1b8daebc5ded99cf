-- The lowest callbacks of 11, 12 and 14 from the masks of names, kinds and heads (that of 13 is in LoopLaws). Assumes nothing.
-- twice_law, timer_law, wrong_law: 11, 12, 14. heads_are: the mask of the heads.
use mathlib.Core.Path.{◌≡◌, ap, ap₂, ◌∙◌}
use mathlib.Core.Bool.{Bool, ◌&&◌}
use Prim.Native.Nat.{ℕ, ◌-◌, ◌^◌, ◌≤◌}
use lib.Dec.{eqb, leb}
use Rattle.masks.specs.Mask.{has, gather}
use Rattle.masks.specs.Parts.{both, except, first_index}
use Rattle.masks.proofs.Gather.{gather_in}
use Rattle.ranges.specs.Least.{lowest}
use Rattle.ranges.proofs.LeastLaws.{lowest-same}
use Rattle.table.specs.declared.Names.{Names}
use Rattle.table.specs.declared.Table.{Table}
use Rattle.numbers.specs.Numbers
use Rattle.numbers.specs.Numbers.{longest}
use Rattle.table.specs.Values.{callback_at, kind_of}
use Rattle.table.specs.Links.{named, is_head}
use Rattle.table.specs.Parts.{names_of}
use Rattle.table.proofs.NamedLaws.{heads_law}
use Rattle.priority.specs.declared.Kinds.{Kinds}
use Rattle.priority.specs.Parts.{kinds_of, kinds_to}
use Rattle.masks.proofs.Index.{first_gather, first_both}
use Rattle.link_rules.specs.LinkRules.{arrivals_fault}

module _ (t : Table) (few : t.count ≤ 16) (s : Names) (names : s ≡ names_of t) where
  pub twice_law : (x : ℕ) → x ≡ first_index s.twice → x ≡ lowest (λ i. leb 2 (named t i)) t.count
  unfolding names_of
  twice_law x e = e ∙ ap (λ (u : Names). first_index u.twice) names ∙ first_gather (λ i. leb 2 (named t i)) t.count few

  pub timer_law : (k : Kinds) → k ≡ kinds_of t → (x : ℕ) → x ≡ first_index (both s.once k.timers)
      → x ≡ lowest (λ i. leb 1 (named t i) && eqb (kind_of t i) Numbers.timer) t.count
  unfolding names_of kinds_to
  timer_law k kinds x e =
      e
      ∙ ap₂ (λ (u : Names) (v : Kinds). first_index (both u.once v.timers)) names kinds
      ∙ first_both (λ i. leb 1 (named t i)) t.count few _
      ∙ lowest-same _ _ t.count (λ i l. ap (λ (b : Bool). leb 1 (named t i) && b) (gather_in (λ i. eqb (kind_of t i) Numbers.timer) t.count i l))

  pub heads_are : (h : ℕ) → h ≡ except (2 ^ t.count - 1) s.once → h ≡ gather (is_head t) t.count
  heads_are h heads = heads ∙ ap (λ (u : Names). except (2 ^ t.count - 1) u.once) names ∙ heads_law t

  pub wrong_law : (h : ℕ) → h ≡ except (2 ^ t.count - 1) s.once → (x : ℕ) → x ≡ lowest (λ i. arrivals_fault (has h i) (callback_at t i)) t.count
      → x ≡ lowest (λ i. arrivals_fault (is_head t i) (callback_at t i)) t.count
  wrong_law h heads x e =
      e ∙ lowest-same _ _ t.count (λ i l. ap (λ (b : Bool). arrivals_fault b (callback_at t i)) (ap (λ (m : ℕ). has m i) (heads_are h heads) ∙ gather_in (is_head t) t.count i l))
