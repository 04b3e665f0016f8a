-- Spans in order: one more, the last one taken away, and the records that lie before a place.
use Rattle.std.proofs.Common.{◌≡◌, ℕ, ◌+◌, ◌-◌, ◌≤◌, List, [], ◌∷◌, ◌++◌, take, drop, refl, ap, ap₂, ◌∙◌, arith}
use Rattle.std.proofs.lemmas.List.{drop-take, take-take}
use Rattle.jf_frame.specs.Framed.{LogRecord, all_lying, AreInOrder}
use Rattle.jf_frame.specs.declared.span.Span.{Span}

-- spans in order end no earlier than they begin
pub order-end : (at : ℕ) (spans : List Span) (end : ℕ) → AreInOrder at spans end → at ≤ end
order-end at [] end ordered = ordered
order-end at (s ∷ spans) end ordered =
    let first = ordered.0 in
    let rest = order-end (s.offset + 10 + s.size) spans end ordered.1 in
    omega (arith)

-- what ends by a place ends by a later one
pub order-longer : (at : ℕ) (spans : List Span) (end later : ℕ) → AreInOrder at spans end → end ≤ later → AreInOrder at spans later
order-longer at [] end later ordered more = omega (arith)
order-longer at (s ∷ spans) end later ordered more = (ordered.0, order-longer (s.offset + 10 + s.size) spans end later ordered.1 more)

-- one more span, after the others
pub order-push : (at : ℕ) (spans : List Span) (end : ℕ) (s : Span) → AreInOrder at spans end → end ≤ s.offset → AreInOrder at (spans ++ s ∷ []) (s.offset + 10 + s.size)
order-push at [] end s ordered after = (omega (arith), omega (arith))
order-push at (x ∷ spans) end s ordered after = (ordered.0, order-push (x.offset + 10 + x.size) spans end s ordered.1 after)

-- without the last span the others end by its gate
pub order-pop : (at : ℕ) (spans : List Span) (end : ℕ) (s : Span) → AreInOrder at (spans ++ s ∷ []) end → AreInOrder at spans s.offset
order-pop at [] end s ordered = ordered.0
order-pop at (x ∷ spans) end s ordered = (ordered.0, order-pop (x.offset + 10 + x.size) spans end s ordered.1)

-- the last span ends by where all of them do
pub order-last : (at : ℕ) (spans : List Span) (end : ℕ) (s : Span) → AreInOrder at (spans ++ s ∷ []) end → s.offset + 10 + s.size ≤ end
order-last at [] end s ordered = ordered.1
order-last at (x ∷ spans) end s ordered = order-last (x.offset + 10 + x.size) spans end s ordered.1

-- ---- bytes that are cut
same_front : (bytes : List ℕ) (start size cut : ℕ) → start + size ≤ cut → take size (drop start (take cut bytes)) ≡ take size (drop start bytes)
same_front bytes start size cut within =
    let split : cut ≡ start + (cut - start) = omega (arith) in
    let fits : size ≤ cut - start = omega (arith) in
    ap (λ n. take size (drop start (take n bytes))) split
    ∙ ap (take size) (drop-take start (cut - start) bytes)
    ∙ take-take size (cut - start) (drop start bytes) fits

-- the records at spans that end by a place lie in the bytes before it
pub lying-front : (bytes : List ℕ) (at : ℕ) (spans : List Span) (cut : ℕ) → AreInOrder at spans cut → all_lying (take cut bytes) spans ≡ all_lying bytes spans
lying-front bytes at [] cut ordered = refl
lying-front bytes at (s ∷ spans) cut ordered =
    let rest = order-end (s.offset + 10 + s.size) spans cut ordered.1 in
    let here : take s.size (drop (s.offset + 10) (take cut bytes)) ≡ take s.size (drop (s.offset + 10) bytes) = same_front bytes (s.offset + 10) s.size cut (omega (arith)) in
    ap₂ (λ p rs. (let r : LogRecord = record { kind = s.kind; offset = s.offset; payload = p } in r) ∷ rs) here (lying-front bytes (s.offset + 10 + s.size) spans cut ordered.1)
