use contract.Lifetimes.{Lfts}
use denote.Exit.{yes}
use denote.Param.{param}
use denote.Param.Send.{IsSend, IsSync, param_send, arg_send, sendable}
use Rattle.std.proofs.Common.{rules, ◌+◌, ◌*◌, ◌<◌, List, ℕ, map, length, sym, subst, arith}
use Rattle.std.proofs.Crossing.{crosses}
use Rattle.jf_io.specs.Lines.{lines}
use Rattle.jf_store.proofs.Sending.{Pass-send, Store-sync}
use Rattle.jf_serve.proofs.side_by_side.+sessions.Lts-run_side_by_side as lts
use Rattle.jf_serve.proofs.side_by_side.+sessions.Given as given
use Rattle.jf_serve.specs.Ran.{HasRunSession, HaveRunSessions}
use Rattle.jf_serve.proofs.Sending.{SessionRan-send}
use Rattle.jf_serve.proofs.SessionsRun.{fewer, as_many, rest_new, rest_room, room_left, last_new, ran_all}
use Rattle.jf_serve.proofs.side_by_side.+sessions.Goals as goal

-- what the closure over the last pass holds may go to another thread
last-send : (g : given.Over) (κs : Lfts 16) → IsSend (param 0 g.row.D) → IsSync (param 1 g.row.H) → IsSync (param 2 g.row.G) → IsSend (param 1 (lts.arg-8-1 g.row.D g.row.H g.row.G g.D.laws g.H.laws g.G.laws g.D.Disk g.D.Disk-dict g.H.Threads g.H.Threads-dict g.H.Wait g.H.Wait-dict g.G.Gate g.G.Gate-dict κs))
last-send g κs disk threads gate = search (Pass-send, Store-sync, sendable, crosses) depth 20

pub join-last-requires-send-F : goal.join-last-requires-send-F
join-last-requires-send-F g t c κs within = last-send g κs (search rules) (search rules) (search rules)

pub join-last-requires-send-A : goal.join-last-requires-send-A
join-last-requires-send-A g t c κs within =
    let disk : IsSend (param 0 g.row.D) = search rules in
    param_send 3 _ (arg_send _ yes _ (SessionRan-send (param 0 g.row.D) g.D.Disk disk))

pub join-last-requires-after_bounds : goal.join-last-requires-after_bounds
join-last-requires-after_bounds g t c κs within =
    let store = c.args.store.now in
    let scripts = c.args.scripts.now in
    let passes = c.args.passes.items in
    let rest = c.pop.new.self.items in
    let pass = c.in-Some.pass in
    let others = c.in-Some-split_last.others.now in
    let script = c.in-Some-split_last.script.now in
    let popped = c.in-Some.ensures.items in
    let cut = c.in-Some-split_last.ensures.cases.0 in
    let few = fewer store passes rest pass scripts others script c.requires.new c.requires.long popped cut in
    let falls : 2 * length rest + 1 < t = omega (arith, few, c.decreases) in (
      ((search rules, search rules, search rules, last_new store passes rest pass scripts others script c.requires.new c.requires.long popped cut), search rules),
      (
        falls,
        (
          search rules,
          (
            search rules,
            (
              search rules,
              (
                (
                  search rules,
                  search rules,
                  search rules,
                  rest_new store passes rest pass scripts others script c.requires.new c.requires.long popped cut,
                  as_many store passes rest pass scripts others script c.requires.new c.requires.long popped cut,
                  c.requires.empty,
                  rest_room store passes rest pass scripts others script c.requires.new c.requires.long popped cut c.args.gathered.room c.requires.room,
                ),
                search rules,
              ),
            ),
          ),
        ),
      ),
    )

pub with-requires-2-after_bounds : goal.with-requires-2-after_bounds
with-requires-2-after_bounds g t c κs within =
    let second = c.join-last.ensures.second in
    room_left c.args.store.now c.args.passes.items c.pop.new.self.items c.in-Some.pass c.args.scripts.now c.in-Some-split_last.others.now c.in-Some-split_last.script.now c.requires.new c.requires.long c.in-Some.ensures.items
    c.in-Some-split_last.ensures.cases.0 c.args.gathered.room c.join-last.result.1 c.requires.room second.1 second.0

pub returns-clause-ran : goal.returns-clause-ran
returns-clause-ran g t c =
    let store = c.args.store.now in
    let one = c.join-last.result.0 in
    let last = subst (λ (xs : List ℕ). HasRunSession store c.in-Some.pass.number (lines xs) one.end one.text one.pass) c.as_slice-script.ensures c.join-last.ensures.first in
    let ran =
    ran_all store c.args.passes.items c.pop.new.self.items c.in-Some.pass c.args.scripts.now c.in-Some-split_last.others.now c.in-Some-split_last.script.now c.requires.new c.requires.long c.in-Some.ensures.items
    c.in-Some-split_last.ensures.cases.0 c.join-last.result.1 one.end one.text one.pass c.join-last.ensures.second.0 last in
    subst (HaveRunSessions store 0 (map lines c.args.scripts.now)) (sym c.with-2.ensures) ran
