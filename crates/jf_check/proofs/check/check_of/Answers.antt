use Rattle.jf_disk.specs.Memory.{history_of}
use Rattle.jf_check.proofs.Checked.{checked}
use Rattle.jf_check.proofs.check.check_of.Goals as goal

pub returns : goal.returns
returns g c =
    checked (λ v. v.items) c.args.a c.args.b (history_of c.in_ok-disk.disk) (history_of c.shown_on.new.disk) (history_of c.shown_on-2.new.disk) c.side_of-a_there.result c.side_of-b_there.result
    c.in_ok-shown_on.field-0 c.in_ok-shown_on-2.field-0 c.in_ok-store_found.field-0 c.in_ok-disk.ensures c.in_ok-shown_on.ensures.unchanged c.in_ok-shown_on-2.ensures.unchanged c.side_of-a_there.ensures c.side_of-b_there.ensures
    c.in_ok-shown_on.ensures.shown c.in_ok-shown_on-2.ensures.shown c.in_ok-store_found.ensures
