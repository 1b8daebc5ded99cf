-- `bound_of_all` meets its contract: that of the level of all callbacks.
use mathlib.Core.Path.{sym, ap, ◌∙◌}
use Rattle.masks.specs.Mask.{has}
use Rattle.masks.proofs.Slots.{has_zero}
use Rattle.windows.specs.declared.Level.{Level}
use Rattle.windows.specs.Bounds.{window_in, bound_in}
use Rattle.levels.proofs.LevelLaws.{all_window, all_bound}
use Rattle.levels.proofs.bound_of_all.Goals as goal

pub bound-requires : goal.bound-requires
bound-requires c =
    let t = c.args.t.now.table in
    let e = c.everyone.ensures in (
      c.requires.0,
      ap (λ (v : Level). has v.below c.args.x) e ∙ has_zero c.args.x,
      c.requires.1 ∙ sym (ap (window_in t) e ∙ all_window t),
      c.requires.2,
    )

pub returns : goal.returns
returns c =
    let t = c.args.t.now.table in
    (c.bound.ensures.0 ∙ ap (λ (v : Level). bound_in t v c.args.x) c.everyone.ensures ∙ all_bound t c.args.x, c.bound.ensures.1)
