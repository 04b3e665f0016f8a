use Rattle.jf_script.specs.declared.command.Base.TheVariants as base
use Rattle.jf_session.specs.Steps.{session_of}
use Rattle.jf_session.proofs.StoredReads.{read_as, place_as}
use Rattle.jf_session.proofs.session.Session.read.Goals as goal

pub invariant_of-self : goal.invariant_of-self
invariant_of-self g c = c.read_head.ensures.sound c.self.inside.pending c.self.invariant

pub invariant_of-self-in-Version : goal.invariant_of-self-in-Version
invariant_of-self-in-Version g c = c.read_version.ensures.sound c.self.inside.pending c.self.invariant

pub returns-in-Head : goal.returns-in-Head
returns-in-Head g c =
    let i = c.self.inside in
    let r = c.read_head in
    read_as c.args.store.now.start c.args.self.now (session_of i.pass i.pending i.over) (session_of r.new.pass i.pending r.new.over) c.args.base base.Head c.args.question c.args.block.now r.new.block r.result c.self.view_is c.in-Head.is
    (r.ensures.obeyed i.pending)

pub returns-in-Version : goal.returns-in-Version
returns-in-Version g c =
    let i = c.self.inside in
    let r = c.read_version in
    read_as c.args.store.now.start c.args.self.now (session_of i.pass i.pending i.over) (session_of r.new.pass i.pending r.new.over) c.args.base (base.Version c.in-Version.version) c.args.question c.args.block.now r.new.block
    r.result c.self.view_is c.in-Version.is (r.ensures.obeyed i.pending)

pub returns-in-Place : goal.returns-in-Place
returns-in-Place g c =
    let i = c.self.inside in
    let r = c.read_place in
    place_as c.args.store.now.start i.pass i.pending i.over c.args.self.now c.self.view_is c.requires.open.over c.self.invariant c.requires.open.own.1 c.args.base c.in-Place.place c.args.question c.args.block.now r.new.block r.result
    c.in-Place.is r.ensures
