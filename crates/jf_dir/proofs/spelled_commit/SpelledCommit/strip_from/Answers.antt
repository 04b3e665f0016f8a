-- The landing's own bytes are taken off the front part by part, or the front is other bytes.
use Rattle.std.proofs.Common.{◌≡◌, ◌++◌, Ok, None, Option, Bor, List, ℕ, length, sym, ap, ◌∙◌, subst, rules, append_assoc}
use Rattle.std.proofs.lemmas.List.{append_cancel_left}
use Rattle.std.specs.List.{flat_map}
use Rattle.std.specs.Option.{IfSome}
use Rattle.jf_path.specs.Numbers.{eight_bytes}
use Rattle.jf_codec.specs.Spelling.{name_bytes}
use Rattle.jf_codec.specs.declared.format.Format.{Format}
use Rattle.jf_payload.specs.Spelling.{commit_bytes, fresh_bytes, list_bytes}
use Rattle.jf_payload.specs.declared.records.Commit.{Commit}
use Rattle.jf_dir.proofs.spelled_commit.SpelledCommit.strip_from.Goals as goal

abbrev front_bytes : Commit → List ℕ
front_bytes x = eight_bytes x.version ++ x.root ++ eight_bytes (length x.fresh)

-- a landing's bytes: those before its nodes, those of its nodes, and those after them
apart : (fmt : Format) (x : Commit) (tail : List ℕ) → commit_bytes fmt x ++ tail ≡ front_bytes x ++ (flat_map (fresh_bytes fmt) x.fresh ++ (list_bytes name_bytes x.stale ++ tail))
unfolding commit_bytes
apart fmt x tail =
    let head = eight_bytes x.version ++ x.root in
    let count = eight_bytes (length x.fresh) in
    let nodes = flat_map (fresh_bytes fmt) x.fresh in
    let back = list_bytes name_bytes x.stale in
    append_assoc (head ++ (count ++ nodes)) back tail ∙ ap (λ t. t ++ (back ++ tail)) (sym (append_assoc head count nodes)) ∙ append_assoc (head ++ count) nodes (back ++ tail)

-- what is left after the first of them
after_front : (fmt : Format) (x y : Commit) (front bytes nodes tail : List ℕ) → y ≡ x → front ≡ front_bytes x → bytes ≡ front ++ nodes → bytes ≡ commit_bytes fmt x ++ tail
    → nodes ≡ flat_map (fresh_bytes fmt) y.fresh ++ (list_bytes name_bytes y.stale ++ tail)
after_front fmt x y front bytes nodes tail same is left whole =
    append_cancel_left (front_bytes x) nodes _ (ap (λ f. f ++ nodes) (sym is) ∙ sym left ∙ whole ∙ apart fmt x tail)
    ∙ ap (λ (z : Commit). flat_map (fresh_bytes fmt) z.fresh ++ (list_bytes name_bytes z.stale ++ tail)) (sym same)

pub returns-in_default-2-clause-none : goal.returns-in_default-2-clause-none
returns-in_default-2-clause-none c = λ is tail e.
    let front : c.as_slice.result.now ≡ front_bytes c.args.self.now = search rules in
    c.in_ok-names.ensures.none (ap (λ o. Ok o) c.in_default-2.is) _ (after_front c.args.format c.args.self.now _ _ c.args.bytes.now c.in-Some.nodes.now tail c.self.view_is front c.in-Some.ensures.found e)

pub returns-clause-none : goal.returns-clause-none
returns-clause-none c = λ is tail e.
    let none : c.strip_front-2.result ≡ None = (let h = is in cc) in
    let front : c.as_slice.result.now ≡ front_bytes c.args.self.now = search rules in
    let left = after_front c.args.format c.args.self.now _ _ c.args.bytes.now c.in-Some.nodes.now tail c.self.view_is front c.in-Some.ensures.found e in
    let there = subst (λ (o : Option (Bor (List ℕ))). IfSome o (λ r. c.in-Some.nodes.now ≡ flat_map (fresh_bytes c.args.format) c.self.inside.fresh ++ r.now)) c.in-Some-2.is c.in_ok-names.ensures.found in
    let names = append_cancel_left (flat_map (fresh_bytes c.args.format) c.self.inside.fresh) _ _ (sym there ∙ left) in
    let own : c.as_slice-3.result.now ≡ list_bytes name_bytes c.args.self.now.stale = search rules in
    c.strip_front-2.ensures.none none tail (names ∙ ap (λ b. b ++ tail) (ap (λ (z : Commit). list_bytes name_bytes z.stale) c.self.view_is ∙ sym own))
