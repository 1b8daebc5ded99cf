-- `bound_of_level` meets its contract: the level that it builds is that of slot x.
use mathlib.Core.Path.{ap, ◌∙◌}
use Prim.Native.Nat.{ℕ}
use native.Mathlib.Omega.{arith}
use Rattle.masks.specs.Mask.{has}
use Rattle.windows.specs.declared.Level.{Level}
use Rattle.windows.specs.Bounds.{bound_in}
use Rattle.windows.proofs.FoundLaws.{found_or}
use Rattle.std.proofs.Common.{unwrap_or}
use Rattle.levels.proofs.LevelLaws.{not_below}
use Rattle.levels.specs.Levels.{lower_than, blocking_by, level_of, bound_of_level}
use Rattle.levels.proofs.bound_of_level.Goals as goal

pub bound-requires : goal.bound-requires
bound-requires c =
    let x = c.args.x in
    let own = c.unwrap_or-own.ensures ∙ ap (λ o. unwrap_or o 0) c.window.ensures.0 ∙ found_or _ in
    (c.requires.0, ap (λ (m : ℕ). has m x) c.lower-below.ensures ∙ not_below c.args.t.now.table x c.requires.0, own, omega (arith, own, c.window.ensures.1))

pub returns : goal.returns
unfolding bound_of_level level_of
returns c =
    let t = c.args.t.now.table in
    let x = c.args.x in
    let level : ℕ → ℕ → ℕ → Level = λ below b h. record { below = below; blocking = b; horizon = h } in
    let built = ap (λ (b : ℕ). level c.lower-below.result b c.args.window) c.blocking.ensures
    ∙ ap (λ (m : ℕ). level m (blocking_by t m) c.args.window) c.lower-below.ensures
    ∙ ap (level (lower_than t x) (blocking_by t (lower_than t x))) c.requires.1 in
    (c.bound.ensures.0 ∙ ap (λ (v : Level). bound_in t v x) built, c.bound.ensures.1)
