-- The record of landings: of one alone, and of a group.
use Rattle.std.specs.Prelude.{slice_index_or}
use Rattle.std.proofs.Common.{◌≡◌, refl, sym, subst, ℕ, List, [], ◌∷◌, length, arith}
use Rattle.std.specs.List.{AllByRecursion}
use Rattle.jf_frame.specs.Framing.{IsFrame}
use Rattle.jf_codec.specs.Spelling.{IsNode}
use Rattle.jf_codec.specs.Counted.{in_format}
use Rattle.jf_codec.specs.declared.format.Format.{Format}
use Rattle.jf_payload.specs.declared.records.Commit.{Commit}
use Rattle.jf_payload.specs.Spelling.{IsRecord, kind_of, record_bytes, commit_bytes, list_bytes}
use Rattle.jf_payload.specs.Counted.{record_in}
use Rattle.jf_payload.proofs.FormatLaws.{fresh_nodes, group_nodes}
use Rattle.jf_files.specs.StepLaws.{landed_record}

-- ---- what the format keeps of each node has a spelling
pub one-fits : (fmt : Format) (cs : List Commit) (c d : Commit) → length cs ≡ 1 → c ≡ slice_index_or cs 0 d → IsRecord fmt (record_in fmt (landed_record cs)) → AllByRecursion (λ x. IsNode fmt (in_format fmt x.1)) c.fresh
one-fits fmt [] c d one is fits = absurd (omega (arith, one))
one-fits fmt (x ∷ []) c d one is fits = subst (λ (y : Commit). AllByRecursion (λ n. IsNode fmt (in_format fmt n.1)) y.fresh) (sym is) (fresh_nodes fmt x.fresh fits.fresh)
one-fits fmt (x ∷ y ∷ cs) c d one is fits = absurd (omega (arith, one))

pub group-fits : (fmt : Format) (cs : List Commit) → (length cs ≡ 1 → ⊥) → IsRecord fmt (record_in fmt (landed_record cs)) → AllByRecursion (λ c. AllByRecursion (λ x. IsNode fmt (in_format fmt x.1)) c.fresh) cs
group-fits fmt [] several fits = tt
group-fits fmt (c ∷ []) several fits = absurd (several refl)
group-fits fmt (c ∷ d ∷ cs) several fits = group_nodes fmt (c ∷ d ∷ cs) fits.commits

-- ---- the frame
pub one-framed : (fmt : Format) (cs : List Commit) (c d : Commit) → length cs ≡ 1 → c ≡ slice_index_or cs 0 d → (bytes : List ℕ) → IsFrame bytes 3 (commit_bytes fmt c) → IsFrame bytes (kind_of fmt (landed_record cs)) (record_bytes fmt (landed_record cs))
unfolding record_bytes
one-framed fmt [] c d one is bytes frame = absurd (omega (arith, one))
one-framed fmt (x ∷ []) c d one is bytes frame = subst (λ (y : Commit). IsFrame bytes 3 (commit_bytes fmt y)) is frame
one-framed fmt (x ∷ y ∷ cs) c d one is bytes frame = absurd (omega (arith, one))

pub group-framed : (fmt : Format) (cs : List Commit) → (length cs ≡ 1 → ⊥) → (bytes : List ℕ) → IsFrame bytes 6 (list_bytes (commit_bytes fmt) cs) → IsFrame bytes (kind_of fmt (landed_record cs)) (record_bytes fmt (landed_record cs))
unfolding record_bytes
group-framed fmt [] several bytes frame = frame
group-framed fmt (c ∷ []) several bytes frame = absurd (several refl)
group-framed fmt (c ∷ d ∷ cs) several bytes frame = frame
