-- The first checkpoint is that of a new store.
use Rattle.std.proofs.Common.{[], subst}
use Rattle.jf_codec.specs.declared.format.Format.TheVariants as format
use Rattle.jf_payload.specs.Spelling.{IsRecord, record_bytes}
use Rattle.jf_standing.specs.Standing.{Standing}
use Rattle.jf_standing.specs.Building.{new_standing, checkpoint_of}
use Rattle.jf_engine.proofs.Records.{checkpoint_frame-is, frame_of_new}
use Rattle.jf_engine.proofs.Keeping.{on_same}
use Rattle.jf_engine.proofs.Opened.{first_bytes}
use Rattle.jf_engine.proofs.opening.begin_store.Goals as goal

pub switch-begun-requires-clause-checkpoint : goal.switch-begun-requires-clause-checkpoint
switch-begun-requires-clause-checkpoint g c κs within = λ kind payload is.
    let written = subst (λ (s : Standing). IsRecord format.Two (checkpoint_of 1 s)) c.in_ok-directory.ensures c.in_ok-frame.ensures.spelled in
    let frame = frame_of_new c.in_ok-directory.directory c.in_ok-frame.frame c.as_slice.result.now c.in_ok-directory.ensures c.as_slice.ensures c.in_ok-frame.ensures.frame in
    let known = checkpoint_frame-is c.checkpoints_are_numbered.ensures (new_standing format.Two) 1 c.as_slice.result.now written frame kind payload is in
    (known.0, known.1)

pub switch-begun-requires-clause-in_step : goal.switch-begun-requires-clause-in_step
switch-begun-requires-clause-in_step g c κs within = λ h told. ([], c.requires.in_step h told)

pub returns-in_err-begun-clause-stop : goal.returns-in_err-begun-clause-stop
returns-in_err-begun-clause-stop g c = λ m told.
    let frame = frame_of_new c.in_ok-directory.directory c.in_ok-frame.frame c.as_slice.result.now c.in_ok-directory.ensures c.as_slice.ensures c.in_ok-frame.ensures.frame in
    c.in_err-begun.ensures.stop m [] 5 (record_bytes format.Two (checkpoint_of 1 (new_standing format.Two))) told (c.requires.in_step m told) frame

pub returns-clause-in_step : goal.returns-clause-in_step
returns-clause-in_step g c = λ m told.
    let frame = frame_of_new c.in_ok-directory.directory c.in_ok-frame.frame c.as_slice.result.now c.in_ok-directory.ensures c.as_slice.ensures c.in_ok-frame.ensures.frame in
    c.in_ok-begun.ensures.ok m 5 (record_bytes format.Two (checkpoint_of 1 (new_standing format.Two))) told frame

pub returns-clause-bytes : goal.returns-clause-bytes
returns-clause-bytes g c = λ m told.
    let frame = frame_of_new c.in_ok-directory.directory c.in_ok-frame.frame c.as_slice.result.now c.in_ok-directory.ensures c.as_slice.ensures c.in_ok-frame.ensures.frame in
    let both = on_same _ _ _ (c.in_ok-begun.ensures.written m told) (c.in_ok-begun.ensures.other m told) in
    (both.0, both.1, first_bytes c.new_store_stands.ensures m both.0 _ _ c.as_slice.result.now c.requires.first c.in_ok-begun.ensures.side.0 frame both.2.0 both.2.1)

pub returns-clause-stop : goal.returns-clause-stop
returns-clause-stop g c = λ m told.
    let frame = frame_of_new c.in_ok-directory.directory c.in_ok-frame.frame c.as_slice.result.now c.in_ok-directory.ensures c.as_slice.ensures c.in_ok-frame.ensures.frame in
    c.in_ok-begun.ensures.stop m [] 5 (record_bytes format.Two (checkpoint_of 1 (new_standing format.Two))) told (c.requires.in_step m told) frame
