-- How a fault of the store is reported to a script.
use Rattle.std.specs.Prelude.{◌≡◌, Bool, true, Result, Ok, Err, IfOk, IfErr, OnOk, OnErr}
use Rattle.jf_store.specs.declared.fault.StoreFault.{StoreFault}
use Rattle.jf_store.specs.declared.fault.StoreFault.TheVariants as store_fault
use Rattle.jf_script.specs.declared.reply.Refusal.{Refusal}
use Rattle.jf_script.specs.declared.reply.Refusal.TheVariants as refusal
use Rattle.jf_script.specs.declared.reply.Reply.{Reply}
use Rattle.jf_script.specs.declared.reply.Reply.TheVariants as reply
use Rattle.jf_session.specs.declared.stop.Stop.{Stop}
use Rattle.jf_session.specs.declared.stop.Stop.TheVariants as stop

-- a refusal that is reported in a reply; a session ends at the others
abbrev pub refusal_or_stop : StoreFault → Result Refusal Stop
refusal_or_stop store_fault.Broken = Err stop.Broken
refusal_or_stop (store_fault.Last which) = Ok refusal.Last
refusal_or_stop (store_fault.Future head) = Ok (refusal.Future head)
refusal_or_stop (store_fault.Retired bound) = Ok (refusal.Retired bound)
refusal_or_stop store_fault.Unknown = Ok refusal.Unknown
refusal_or_stop store_fault.Gone = Ok refusal.Gone
refusal_or_stop (store_fault.TooMany keys) = Ok (refusal.Keys keys)
refusal_or_stop store_fault.Full = Ok refusal.ForksFull
refusal_or_stop store_fault.PinsFull = Ok refusal.PinsFull
refusal_or_stop store_fault.DiskFault = Err stop.DiskFault
refusal_or_stop store_fault.Memory = Err stop.Memory

-- a fault is reported in the reply, or as why the session stops; it is over then
pub record TellsFault (f : StoreFault) (over over' : Bool) (r : Result Reply Stop) : Type 0 where
  pub ok : IfOk r (λ x. (why : Refusal) × (refusal_or_stop f ≡ Ok why) × (x ≡ reply.No why))
  pub goes_on : OnOk r (over' ≡ over)
  pub err : IfErr r (λ why. refusal_or_stop f ≡ Err why)
  pub ends : OnErr r (over' ≡ true)
