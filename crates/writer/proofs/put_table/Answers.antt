use mathlib.Core.Path.{◌≡◌, refl, sym, ap, ◌∙◌, subst}
use mathlib.Core.List.{List}
use Prim.Native.Nat.{ℕ, ◌*◌}
use native.Mathlib.Omega.{arith}
use lib.ListN.{length}
use Rattle.numbers.specs.Numbers.{header_length, record_length}
use Rattle.lent.specs.Over.{over}
use Rattle.lent.proofs.Replace.{over_nil}
use Rattle.table.specs.Values.{callback_at}
use Rattle.reader.specs.Format.{record_start}
use Rattle.reader.specs.Written.{record_bytes, records_bytes}
use Rattle.writer.proofs.WriterLaws.{records_length, records_more, table-whole}
use Rattle.writer.proofs.put_table.Goals as goal

pub loop-i-init : goal.loop-i-init
unfolding records_bytes
loop-i-init c = (refl, refl, sym (over_nil _ header_length))

pub loop-i-preserved : goal.loop-i-preserved
loop-i-preserved c =
    let r = c.put_record in
    let l = c.loop-i in
    let t = c.args.t in (
      r.auto.b ∙ l.invariant.0,
      records_length t l.i l.invariant.1 r.ensures.1,
      r.ensures.0
          ∙ ap (λ (b : List ℕ). over b (record_start l.i) (record_bytes (callback_at t l.i))) l.invariant.2
          ∙ records_more t l.i l.invariant.1 r.ensures.1 c.put_header.new.b (omega (arith, c.requires.1, c.put_header.auto.b)),
    )

pub returns : goal.returns
returns c =
    let l = c.loop-i in
    let t = c.args.t in
    let all : l.i ≡ t.count = omega arith in
    table-whole t c.args.b.now c.requires.1 (subst (λ (n : ℕ). length (records_bytes t n) ≡ record_length * n) all l.invariant.1) c.put_header.ensures
    (l.invariant.2 ∙ ap (λ (n : ℕ). over c.put_header.new.b header_length (records_bytes t n)) all)
