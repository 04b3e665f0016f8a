-- Computed samples: the files of a new store, an append to them, and two switches, with a crash at each place.
use Rattle.std.proofs.Common.{ℕ, List, ◌≡◌, true, false, Ok, ◌∷◌, ◌++◌, [], refl, Some}
use Rattle.jf_disk.specs.Disk.{Files}
use Rattle.jf_disk.specs.declared.side.Side.TheVariants as side
use Rattle.jf_frame.specs.Framed.{LogRecord}
use Rattle.jf_frame.specs.Framing.{records, records_from, size_of, payload_of, after_record, number_of}
use Rattle.jf_pair.specs.Files.{HoldsLive, is_begun, are_level, live_records, outer_damage}
use Rattle.jf_files.specs.Files.{generation}
use Rattle.jf_files.specs.NewStore.{in_eight, new_store_payload}

abbrev files : List ℕ → List ℕ → Files
files a b = record { a = a; b = b }

-- two files hold these live records, of this generation
abbrev HoldsOfGeneration : List ℕ → List ℕ → List LogRecord → ℕ → Type 0
HoldsOfGeneration a b rs g = HoldsLive (files a b) rs × (generation (files a b) ≡ g)

holds : (a b : List ℕ) (left right rs : List LogRecord) (g : ℕ) → records a ≡ Ok left → records b ≡ Ok right → is_begun left ≡ true → is_begun right ≡ true → are_level left right ≡ false → live_records left right ≡ rs → generation (files a b) ≡ g → HoldsOfGeneration a b rs g
holds a b left right rs g p q x y z live gen = (record { a_records = left; b_records = right; a_held = p; b_held = q; a_begun = x; b_begun = y; apart = z; live = live }, gen)

-- the bytes of a new store's side A before its last gate
abbrev first_open : List ℕ
first_open = 1 ∷ 5 ∷ in_eight 90 ++ new_store_payload

abbrev first : LogRecord
first = record { kind = 5; offset = 0; payload = new_store_payload }

first_files : HoldsOfGeneration (first_open ++ 0 ∷ []) [] (first ∷ []) 1
unfolding generation records records_from size_of payload_of after_record number_of
first_files = holds (first_open ++ 0 ∷ []) [] (first ∷ []) [] (first ∷ []) 1 refl refl refl refl refl refl refl

no_files : HoldsOfGeneration [] [] [] 1
unfolding generation records records_from size_of payload_of after_record number_of
no_files = holds [] [] [] [] [] 1 refl refl refl refl refl refl refl

-- ---- a floor appended at offset 100: the frame is written after the closed gate, then the gate is opened
abbrev floor_frame : List ℕ
floor_frame = 2 ∷ in_eight 8 ++ in_eight 0 ++ 0 ∷ []

abbrev floor : LogRecord
floor = record { kind = 2; offset = 100; payload = in_eight 0 }

append_begun : HoldsOfGeneration (first_open ++ 0 ∷ 2 ∷ in_eight 8) [] (first ∷ []) 1
unfolding generation records records_from size_of payload_of after_record number_of
append_begun = holds (first_open ++ 0 ∷ 2 ∷ in_eight 8) [] (first ∷ []) [] (first ∷ []) 1 refl refl refl refl refl refl refl

append_written : HoldsOfGeneration (first_open ++ 0 ∷ floor_frame) [] (first ∷ []) 1
unfolding generation records records_from size_of payload_of after_record number_of
append_written = holds (first_open ++ 0 ∷ floor_frame) [] (first ∷ []) [] (first ∷ []) 1 refl refl refl refl refl refl refl

append_done : HoldsOfGeneration (first_open ++ 1 ∷ floor_frame) [] (first ∷ floor ∷ []) 1
unfolding generation records records_from size_of payload_of after_record number_of
append_done = holds (first_open ++ 1 ∷ floor_frame) [] (first ∷ floor ∷ []) [] (first ∷ floor ∷ []) 1 refl refl refl refl refl refl refl

-- ---- a switch to side B, which is empty: its first gate is written closed, then the frame after it, then the gate is opened
-- the frame of a checkpoint, of whose payload only the generation matters here
abbrev checkpoint_frame : ℕ → List ℕ
checkpoint_frame g = 5 ∷ in_eight 8 ++ in_eight g ++ 0 ∷ []

abbrev checkpoint : ℕ → LogRecord
checkpoint g = record { kind = 5; offset = 0; payload = in_eight g }

-- the bytes of side A before the switch
abbrev side_a : List ℕ
side_a = first_open ++ 1 ∷ floor_frame

switch_closed : HoldsOfGeneration side_a (0 ∷ []) (first ∷ floor ∷ []) 1
unfolding generation records records_from size_of payload_of after_record number_of
switch_closed = holds side_a (0 ∷ []) (first ∷ floor ∷ []) [] (first ∷ floor ∷ []) 1 refl refl refl refl refl refl refl

switch_begun : HoldsOfGeneration side_a (0 ∷ 5 ∷ in_eight 8) (first ∷ floor ∷ []) 1
unfolding generation records records_from size_of payload_of after_record number_of
switch_begun = holds side_a (0 ∷ 5 ∷ in_eight 8) (first ∷ floor ∷ []) [] (first ∷ floor ∷ []) 1 refl refl refl refl refl refl refl

switch_written : HoldsOfGeneration side_a (0 ∷ checkpoint_frame 2) (first ∷ floor ∷ []) 1
unfolding generation records records_from size_of payload_of after_record number_of
switch_written = holds side_a (0 ∷ checkpoint_frame 2) (first ∷ floor ∷ []) [] (first ∷ floor ∷ []) 1 refl refl refl refl refl refl refl

switch_done : HoldsOfGeneration side_a (1 ∷ checkpoint_frame 2) (checkpoint 2 ∷ []) 2
unfolding generation records records_from size_of payload_of after_record number_of
switch_done = holds side_a (1 ∷ checkpoint_frame 2) (first ∷ floor ∷ []) (checkpoint 2 ∷ []) (checkpoint 2 ∷ []) 2 refl refl refl refl refl refl refl

-- ---- a switch back to side A, whose first gate is open: it is closed, the side is cut to it, then as above
back_closed : HoldsOfGeneration (0 ∷ 5 ∷ in_eight 90 ++ new_store_payload) (1 ∷ checkpoint_frame 2) (checkpoint 2 ∷ []) 2
unfolding generation records records_from size_of payload_of after_record number_of
back_closed = holds (0 ∷ 5 ∷ in_eight 90 ++ new_store_payload) (1 ∷ checkpoint_frame 2) [] (checkpoint 2 ∷ []) (checkpoint 2 ∷ []) 2 refl refl refl refl refl refl refl

back_written : HoldsOfGeneration (0 ∷ checkpoint_frame 3) (1 ∷ checkpoint_frame 2) (checkpoint 2 ∷ []) 2
unfolding generation records records_from size_of payload_of after_record number_of
back_written = holds (0 ∷ checkpoint_frame 3) (1 ∷ checkpoint_frame 2) [] (checkpoint 2 ∷ []) (checkpoint 2 ∷ []) 2 refl refl refl refl refl refl refl

back_done : HoldsOfGeneration (1 ∷ checkpoint_frame 3) (1 ∷ checkpoint_frame 2) (checkpoint 3 ∷ []) 3
unfolding generation records records_from size_of payload_of after_record number_of
back_done = holds (1 ∷ checkpoint_frame 3) (1 ∷ checkpoint_frame 2) (checkpoint 3 ∷ []) (checkpoint 2 ∷ []) (checkpoint 3 ∷ []) 3 refl refl refl refl refl refl refl

-- a gate that is opened before its record is whole is damage, and so is a second side of the same generation
torn : outer_damage (files (1 ∷ 5 ∷ in_eight 8) (1 ∷ checkpoint_frame 2)) ≡ Some (side.A, 0)
unfolding records records_from size_of payload_of after_record number_of
torn = refl

level : outer_damage (files (1 ∷ checkpoint_frame 2) (1 ∷ checkpoint_frame 2)) ≡ Some (side.B, 0)
unfolding records records_from size_of payload_of after_record number_of
level = refl
