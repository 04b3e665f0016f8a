use Rattle.std.proofs.Common.{◌≤◌, ap, ◌∙◌, arith}
use Rattle.jf_engine.specs.declared.fault.LandFault.TheVariants as land_fault
use Rattle.jf_follow.specs.Following.{announced_landing}
use Rattle.jf_follow.proofs.Takings.{landed_taken, differs_taken, last_taken, fault_taken}
use Rattle.jf_follow.proofs.landing.land.Goals as goal

pub returns-in-Ok : goal.returns-in-Ok
returns-in-Ok g c =
    let b = announced_landing c.args.version c.args.root.now c.args.batch.now in
    let v = c.args.engine.now.versions in
    let base = c.know.ensures.sound.base_first in
    let floor = c.know.ensures.sound.floor_first in
    let low : v.base ≤ v.head = omega (arith, base, floor) in
    landed_taken b c.args.engine.now c.land_rooted.new.self low c.requires.next c.in-Ok.landed c.in-Ok.ensures.step c.in-Ok.ensures.answer

pub returns-in-Err-Differs : goal.returns-in-Err-Differs
returns-in-Err-Differs g c =
    let b = announced_landing c.args.version c.args.root.now c.args.batch.now in
    let v = c.args.engine.now.versions in
    let base = c.know.ensures.sound.base_first in
    let floor = c.know.ensures.sound.floor_first in
    let low : v.base ≤ v.head = omega (arith, base, floor) in
    differs_taken b c.args.engine.now c.land_rooted.new.self low c.requires.next c.in-Err-Differs.field-0 c.in-Err-Differs.ensures.step c.in-Err-Differs.found c.in-Err-Differs.field-0-is

pub returns-in-Err-Refused-Last : goal.returns-in-Err-Refused-Last
returns-in-Err-Refused-Last g c =
    let b = announced_landing c.args.version c.args.root.now c.args.batch.now in
    let v = c.args.engine.now.versions in
    let base = c.know.ensures.sound.base_first in
    let floor = c.know.ensures.sound.floor_first in
    let low : v.base ≤ v.head = omega (arith, base, floor) in
    let is = c.in-Err-Refused-Last.field-0-is ∙ ap land_fault.Refused c.in-Err-Refused-Last.field-0-0-is in
    last_taken b c.args.engine.now c.land_rooted.new.self low c.requires.next c.in-Err-Refused-Last.field-0 c.in-Err-Refused-Last.ensures.step c.in-Err-Refused-Last.field-0-0-0 is

pub returns-in-Err-Refused-DiskFault : goal.returns-in-Err-Refused-DiskFault
returns-in-Err-Refused-DiskFault g c =
    let b = announced_landing c.args.version c.args.root.now c.args.batch.now in
    let v = c.args.engine.now.versions in
    let base = c.know.ensures.sound.base_first in
    let floor = c.know.ensures.sound.floor_first in
    let low : v.base ≤ v.head = omega (arith, base, floor) in
    let is = c.in-Err-Refused-DiskFault.field-0-is ∙ ap land_fault.Refused c.in-Err-Refused-DiskFault.field-0-0-is in
    fault_taken b c.args.engine.now c.land_rooted.new.self low c.requires.next c.in-Err-Refused-DiskFault.field-0 c.in-Err-Refused-DiskFault.ensures.step is
