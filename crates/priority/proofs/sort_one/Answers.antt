-- `sort_one` meets its contract: the slot goes into the mask of its kind. Assumes nothing.
use mathlib.Core.Path.{sym, ap, ◌∙◌}
use Rattle.std.specs.Prelude.{Ok}
use Rattle.priority.proofs.PriorityLaws.{sort_numbered}
use Rattle.priority.proofs.sort_one.Goals as goal

pub returns-in-Ok-Timer : goal.returns-in-Ok-Timer
returns-in-Ok-Timer c = simp c.set_slot.ensures (sort_numbered c.args.kinds c.args.kind c.args.slot _ (ap Ok (sym c.in-Ok-Timer.field-0-is) ∙ c.in-Ok-Timer.ensures))

pub returns-in-Ok-Subscription : goal.returns-in-Ok-Subscription
returns-in-Ok-Subscription c = simp c.set_slot-in-Ok-Subscription.ensures (sort_numbered c.args.kinds c.args.kind c.args.slot _ (ap Ok (sym c.in-Ok-Subscription.field-0-is) ∙ c.in-Ok-Subscription.ensures))

pub returns-in-Ok-Service : goal.returns-in-Ok-Service
returns-in-Ok-Service c = simp c.set_slot-in-Ok-Service.ensures (sort_numbered c.args.kinds c.args.kind c.args.slot _ (ap Ok (sym c.in-Ok-Service.field-0-is) ∙ c.in-Ok-Service.ensures))

pub returns-in-Ok-Client : goal.returns-in-Ok-Client
returns-in-Ok-Client c = simp c.set_slot-in-Ok-Client.ensures (sort_numbered c.args.kinds c.args.kind c.args.slot _ (ap Ok (sym c.in-Ok-Client.field-0-is) ∙ c.in-Ok-Client.ensures))

pub returns-in-Err : goal.returns-in-Err
returns-in-Err c = sort_numbered c.args.kinds c.args.kind c.args.slot _ c.in-Err.ensures
