-- `window` meets its contract: that of the level of all callbacks.
use mathlib.Core.Path.{ap, ◌∙◌}
use native.Mathlib.Omega.{arith}
use Rattle.windows.specs.declared.Level.{Level}
use Rattle.windows.specs.Bounds.{window_in}
use Rattle.windows.specs.Parts.{found}
use Rattle.windows.proofs.TableLaws.{horizon_in}
use Rattle.levels.proofs.LevelLaws.{all_window}
use Rattle.levels.proofs.window.Goals as goal

pub window-requires : goal.window-requires
window-requires c = omega (arith, ap (λ (v : Level). v.horizon) c.everyone.ensures, horizon_in c.args.t.now.table c.args.t.now.headed.sound)

pub returns : goal.returns
returns c =
    let t = c.args.t.now.table in
    let e = ap (window_in t) c.everyone.ensures ∙ all_window t in
    (c.window.ensures.0 ∙ ap found e, omega (arith, e, c.window.ensures.1))
