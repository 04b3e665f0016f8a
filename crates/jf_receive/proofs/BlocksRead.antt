-- The result of a source whose lines were taken as chunk blocks.
use Rattle.std.proofs.Common.{◌≡◌, ◌∙◌, inl, inr, ℕ, List, [], ◌∷◌, ◌++◌, length, refl, ap, sym, subst, Option, Some, Result, Ok, Err}
use Rattle.jf_io.specs.Lines.{lines}
use Rattle.jf_evidence.specs.Ranges.{Entries}
use Rattle.jf_engine.specs.Engines.{Engine}
use Rattle.jf_restore.specs.RestoreValue.{RestoreValue}
use Rattle.jf_restore.specs.Finishes.{IsNewStore}
use Rattle.jf_input.specs.Feeds.{TakesLines, ReadsAll, ReadsFew, HasFed}
use Rattle.jf_input.specs.declared.feeding.Feeding.{Feeding}
use Rattle.jf_input.specs.declared.feeding.Feeding.TheVariants as feeding
use Rattle.jf_receive.specs.Chunks.{chunks, refusal_decided_by}
use Rattle.jf_receive.specs.Laws.{with_entries, ChunksComeLineByLine, RefusalsComeAtTheirLine, RefusalsStay}
use Rattle.jf_receive.specs.Steps.{Restoring, restoring_after, restored_at_end, refusal_at_stage}
use Rattle.jf_receive.specs.declared.fault.BlockFault.{BlockFault}
use Rattle.jf_receive.specs.declared.fault.BlockFault.TheVariants as block_fault
use Rattle.jf_receive.specs.Receives.{restore_piece, IsReadUp, ReadsToDecision, HasReceived}
use Rattle.jf_receive.specs.TakenLines.{TakesBlockLine, EndsBlockLines, ComesToEntries, refused_lines}
use Rattle.jf_receive.proofs.LinesTaken.{new_restore, first, took-after, took-undecided, refused-last, decide-first}
use Rattle.jf_receive.proofs.RestoredLaws.{restored-err}

-- lines that are refused end a restore so, if no line was refused before
pub refused-received : (why : BlockFault) (version : ℕ) (root : List ℕ) (e : Engine) (rest rest' text : Option (List ℕ)) → IsNewStore e.versions
    → ((input : List ℕ) → rest ≡ Some input → chunks root [] (lines input) ≡ Err why) → ReadsToDecision root rest rest' why
    → HasReceived (refused_lines why) version root e e rest rest' text text
refused-received (block_fault.Line at) version root e rest rest' text new is soon =
    (record { unused = new; comes = λ input told. restored-err e.generation root input (block_fault.Line at) (is input told); soon = soon }, refl, refl)
refused-received (block_fault.Chunk at why) version root e rest rest' text new is soon =
    (record { unused = new; comes = λ input told. restored-err e.generation root input (block_fault.Chunk at why) (is input told); soon = soon }, refl, refl)
refused-received block_fault.Memory version root e rest rest' text new is soon = ((new, refl), refl)

out_of_memory-received : (why : BlockFault) → why ≡ block_fault.Memory → (version : ℕ) (root : List ℕ) (e : Engine) (rest rest' text : Option (List ℕ)) → IsNewStore e.versions
    → HasReceived (refused_lines why) version root e e rest rest' text text
out_of_memory-received why is version root e rest rest' text new = subst (λ w. HasReceived (refused_lines w) version root e e rest rest' text text) (sym is) ((new, refl), refl)

-- what the end of lines returns, by the result of all of them
ended_ok : (r x : RestoreValue) (o : Result Entries BlockFault) → Ok x ≡ with_entries r o → (x.version ≡ r.version) × (x.root ≡ r.root) × (o ≡ Ok x.entries)
ended_ok r x (Ok es) e =
    let same : x ≡ (let y : RestoreValue = record { version = r.version; root = r.root; entries = es } in y) = cc in
    (ap (λ (y : RestoreValue). y.version) same, ap (λ (y : RestoreValue). y.root) same, ap (λ (y : RestoreValue). Ok y.entries) (sym same))
ended_ok r x (Err why) e = absurd (cc)

ended_err : (r : RestoreValue) (why : BlockFault) (o : Result Entries BlockFault) → Err why ≡ with_entries r o → o ≡ Err why
ended_err r why (Ok es) e = absurd (cc)
ended_err r why (Err w) e = let same : why ≡ w = cc in ap (λ x. Err x) (sym same)

module _ (version : ℕ) (root : List ℕ) (start last : Restoring) (begun : start ≡ first version root) (source source' text text' : Option (List ℕ)) where
  -- the lines of the source were fed to what reads blocks
  abbrev Read : Feeding BlockFault → Type 0
  Read how = HasFed TakesBlockLine EndsBlockLines (λ m n. Unit {0}) restore_piece how start last source source' text text'

  taken_first : (how : Feeding BlockFault) (f : Read how) → TakesLines TakesBlockLine (first version root) f.done f.mid f.said
  taken_first how f = subst (λ (s : Restoring). TakesLines TakesBlockLine s f.done f.mid f.said) begun f.took

  -- ---- to the end of the input
  -- all lines of the source, which were taken
  record AllTaken : Type 0 where
    ls : List (List ℕ)
    said : List ℕ
    took : TakesLines TakesBlockLine (first version root) ls last said
    reads : ReadsAll source source' ls

  all-taken : Read feeding.Done → AllTaken
  all-taken f = elim f.ended [
    | inl b ↦ absurd b.2
    | inr e ↦ elim e [
      | inl l ↦ absurd l.2
      | inr a ↦ record { ls = f.done; said = f.said; took = subst (λ (m : Restoring). TakesLines TakesBlockLine (first version root) f.done m f.said) (sym a.0.1.0) (taken_first feeding.Done f); reads = a.1 }
    ]
  ]

  ends-so : (law : ChunksComeLineByLine) (a : AllTaken) → restored_at_end last ≡ with_entries (new_restore version root) (chunks root [] a.ls)
  ends-so law a = ap restored_at_end (took-after (first version root) last a.ls a.said a.took) ∙ law (new_restore version root) a.ls

  read_up : AllTaken → IsReadUp source source'
  read_up a input told = (a.reads input told).0

  pub read_ok : ChunksComeLineByLine → Read feeding.Done → (x : RestoreValue) → Ok x ≡ restored_at_end last → (x.version ≡ version) × (x.root ≡ root) × ComesToEntries root x.entries source source'
  read_ok law f x is =
      let a = all-taken f in
      let ok = ended_ok (new_restore version root) x (chunks root [] a.ls) (is ∙ ends-so law a) in
      (ok.0, ok.1, record { read = read_up a; comes = λ input told. ap (λ ls. chunks root [] ls) (a.reads input told).1 ∙ ok.2 })

  pub read_err : ChunksComeLineByLine → RefusalsComeAtTheirLine → Read feeding.Done → (why : BlockFault) → Err why ≡ restored_at_end last → (e : Engine) (t : Option (List ℕ)) → IsNewStore e.versions
      → HasReceived (refused_lines why) version root e e source source' t t
  read_err law decides f why is e t new =
      let a = all-taken f in
      let err = ended_err (new_restore version root) why (chunks root [] a.ls) (is ∙ ends-so law a) in
      refused-received why version root e source source' t new (λ input told. ap (λ ls. chunks root [] ls) (a.reads input told).1 ∙ err)
      (inr (read_up a, λ input told. ap (λ ls. refusal_decided_by (length ls) (chunks root [] ls)) (a.reads input told).1 ∙ took-undecided version root last a.ls a.said a.took decides))

  -- ---- to a line that is refused
  -- the lines before it, which were taken, and the line
  record TakenTo (why : BlockFault) : Type 0 where
    mid : Restoring
    ls : List (List ℕ)
    said : List ℕ
    took : TakesLines TakesBlockLine (first version root) ls mid said
    line : List ℕ
    stops : TakesBlockLine mid line last (Err why)
    reads : ReadsFew restore_piece source source' (ls ++ line ∷ [])

  taken_to : (why : BlockFault) → Read (feeding.Stopped why) → TakenTo why
  taken_to why f = elim f.ended [
    | inl b ↦ absurd b.2
    | inr e ↦ elim e [
      | inl l ↦ record {
        mid = f.mid;
        ls = f.done;
        said = f.said;
        took = taken_first (feeding.Stopped why) f;
        line = l.0;
        stops = l.2.0;
        reads = subst (λ (later : List (List ℕ)). ReadsFew restore_piece source source' (f.done ++ l.0 ∷ later)) l.2.2 l.3;
      }
      | inr a ↦ absurd a.0.0
    ]
  ]

  pub read_stopped : RefusalsComeAtTheirLine → RefusalsStay → (why : BlockFault) → Read (feeding.Stopped why) → (e : Engine) (t : Option (List ℕ)) → IsNewStore e.versions
      → HasReceived (refused_lines why) version root e e source source' t t
  read_stopped decides stay why f e t new =
      let k = taken_to why f in
      elim k.stops [
        | inl memory ↦ out_of_memory-received why memory version root e source source' t new
        | inr refuses ↦
            let refused : refusal_at_stage (restoring_after k.mid k.line).stage ≡ Some why = ap (λ (s : Restoring). refusal_at_stage s.stage) (sym refuses.0) ∙ refuses.1 in
            let all : List (List ℕ) = k.ls ++ k.line ∷ [] in
            let last_refused = refused-last version root k.mid k.ls k.said k.took decides k.line why refused in
            refused-received why version root e source source' t new
            (λ input told. let r = (k.reads input told).2.read in ap (λ ls. chunks root [] ls) r.lines_are ∙ stay (new_restore version root) all r.behind why last_refused)
            (inl (all, decide-first version root k.mid k.ls k.said k.took decides k.line why refused, k.reads))
      ]
