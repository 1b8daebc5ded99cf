-- `start` meets its contract: what the reader gives, with the fresh state for the table. Assumes nothing.
use mathlib.Core.Path.{◌≡◌, sym, ap, ◌∙◌}
use mathlib.Core.List.{List}
use Prim.Native.Nat.{ℕ}
use native.Mathlib.Decide.{ℕ_discrete}
use Rattle.std.specs.Prelude.{Result, Ok, Err}
use Rattle.std.specs.Result.{IsOkAnd}
use Rattle.std.proofs.lemmas.Result.{MatchResult-at_ok, MatchResult-at_err}
use Rattle.table.specs.declared.Refusal.{Refusal}
use Rattle.table.specs.Values.{unless}
use Rattle.table.proofs.RefusalLaws.{refused, passed}
use Rattle.reader.specs.Format.{table_at, read_fault}
use Rattle.executor.specs.declared.Machine.{Machine}
use Rattle.executor.specs.Start.{start_of}
use Rattle.executor.proofs.StartLaws.{start_err, start_ok}
use Rattle.executor.proofs.Machine.start.Goals as goal

-- a value that is known is the value
known : (r : Result Machine Refusal) (m : Machine) → IsOkAnd r (λ x. x ≡ m) → r ≡ Ok m
known (Ok x) m h = ap Ok h
known (Err e) m h = absurd h

pub returns : goal.returns
returns c = go (ℕ_discrete (read_fault c.args.bytes.now).number 0)
  where
    b : List ℕ
    b = c.args.bytes.now

    go : Dec ((read_fault b).number ≡ 0) → c.map.result ≡ unless (start_of b).refusal (start_of b).machine
    go (yes e) =
        known _ _ (MatchResult-at_ok _ _ (table_at b) (c.read.ensures.0 ∙ passed (read_fault b) (table_at b) e) c.map.ensures.cases) ∙ sym (start_ok b e)
    go (no h) =
        MatchResult-at_err _ _ (read_fault b) (c.read.ensures.0 ∙ refused (read_fault b) (table_at b) h) c.map.ensures.cases ∙ sym (start_err b h)
