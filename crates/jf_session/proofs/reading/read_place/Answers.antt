use Rattle.std.proofs.Common.{false, refl}
use Rattle.jf_script.specs.declared.command.Base.TheVariants as base
use Rattle.jf_session.specs.Steps.{session_of}
use Rattle.jf_session.proofs.StoredReads.{place_done, place_refused}
use Rattle.jf_session.proofs.reading.read_place.Goals as goal

pub returns-in-Some : goal.returns-in-Some
returns-in-Some g c = λ start pending sound on_store.
    let p = c.args.pass.now in
    let place = c.args.place in
    let a = c.answer_question in
    place_done start p pending false (session_of p pending false) refl sound refl (base.Place place) place refl c.args.question on_store c.in-Some.snapshot.now c.in-Some.ensures c.args.block.now a.new.block a.result a.ensures

pub returns-in-None : goal.returns-in-None
returns-in-None g c = λ start pending sound on_store.
    let p = c.args.pass.now in
    let place = c.args.place in
    place_refused start p pending false (session_of p pending false) refl sound refl (base.Place place) place refl c.args.question c.in-None.ensures c.args.block.now
