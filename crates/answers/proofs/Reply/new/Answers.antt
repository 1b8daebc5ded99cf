-- What the arm of each outcome writes into the reply is what the outcome says; a flag is a bool's byte.
use mathlib.Core.Path.{◌≡◌, refl, ap, ◌∙◌}
use mathlib.Core.Bool.{Bool, true, false}
use Prim.Native.Nat.{ℕ}
use mir.Val.{bool_byte}
use Rattle.std.specs.Prelude.{Ok}
use Rattle.answers.specs.declared.Reply.{Reply}
use Rattle.answers.specs.Outcome.{Outcome, number_of, callback_of, instance_of, refusal_of, flag, reply_of}
use Rattle.answers.proofs.Reply.new.Goals as goal

byte_flag : (b : Bool) → bool_byte b ≡ flag b
byte_flag true = refl
byte_flag false = refl

-- the reply to an outcome, its two flags being numbers already
abbrev filled : Outcome → ℕ → ℕ → ℕ → ℕ → Reply
filled o s p g f =
    record {
      instance = instance_of o;
      number = (refusal_of o).number;
      index = (refusal_of o).index;
      answer = number_of o;
      callback = callback_of o;
      started = s;
      polled = p;
      gathered = g;
      folded = f;
    }

fills : (s p : Bool) (x y g f : ℕ) (o o' : Outcome) → x ≡ bool_byte s → y ≡ bool_byte p → o ≡ o' → filled o' x y g f ≡ reply_of o s p g f
unfolding reply_of
fills s p x y g f o o' a b e = rw (a, b, e, byte_flag s, byte_flag p)

pub returns-in-Err : goal.returns-in-Err
returns-in-Err c = fills _ _ _ _ _ _ _ _ c.from.ensures c.from-2.ensures c.in-Err.is

pub returns-in-Ok-NoSupply : goal.returns-in-Ok-NoSupply
returns-in-Ok-NoSupply c = fills _ _ _ _ _ _ _ _ c.from.ensures c.from-2.ensures (c.in-Ok-NoSupply.is ∙ ap Ok (rw c.in-Ok-NoSupply.is at c.in-Ok-NoSupply.field-0-is))

pub returns-in-Ok-Idle : goal.returns-in-Ok-Idle
returns-in-Ok-Idle c = fills _ _ _ _ _ _ _ _ c.from.ensures c.from-2.ensures (c.in-Ok-Idle.is ∙ ap Ok (rw c.in-Ok-Idle.is at c.in-Ok-Idle.field-0-is))

pub returns-in-Ok-Ran : goal.returns-in-Ok-Ran
returns-in-Ok-Ran c = fills _ _ _ _ _ _ _ _ c.from.ensures c.from-2.ensures (c.in-Ok-Ran.is ∙ ap Ok (rw c.in-Ok-Ran.is at c.in-Ok-Ran.field-0-is))

pub returns-in-Ok-Finished : goal.returns-in-Ok-Finished
returns-in-Ok-Finished c = fills _ _ _ _ _ _ _ _ c.from.ensures c.from-2.ensures (c.in-Ok-Finished.is ∙ ap Ok (rw c.in-Ok-Finished.is at c.in-Ok-Finished.field-0-is))
