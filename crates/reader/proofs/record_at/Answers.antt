-- `record_at` meets its contract: each field from its place. Assumes nothing.
use mathlib.Core.Path.{◌≡◌, ◌∙◌}
use native.Mathlib.Nat.{add-zero}
use Rattle.lent.specs.Bytes.{numbers, fields_at}
use Rattle.reader.specs.Format.{record_at}
use Rattle.reader.proofs.FormatLaws.{numbers_from}
use Rattle.reader.proofs.record_at.Goals as goal

pub returns : goal.returns
unfolding record_at fields_at numbers
returns c =
    let entries : c.get_all.result ≡ numbers 2 c.args.b.now c.args.at 12 8 = c.get_all.ensures ∙ numbers_from 2 c.args.b.now c.args.at 12 0 8 in
    simp (add-zero, c.get.ensures, c.get-2.ensures, c.get-3.ensures, entries)
