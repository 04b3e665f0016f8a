-- Counts of the calls that reach the system: of a file by kind, of a side, and of a folder's syncs.
use Rattle.std.specs.Prelude.{◌≡◌, ℕ, ◌+◌, ◌-◌, ◌≤◌, ◌⊎◌, ◌^◌, max, min, Bool, true, false}

-- the calls on a file so far, by kind; each count stays at 2^64 - 1; a whole sync is that of all that the system keeps
-- of the file, one of data that of its bytes and of what is needed to read them
pub record FileCalls : Type 0 where
  pub lengths : ℕ
  pub reads : ℕ
  pub writes : ℕ
  pub cuts : ℕ
  pub whole_syncs : ℕ
  pub data_syncs : ℕ

-- a file that was not called yet
abbrev pub no_calls : FileCalls
no_calls = record { lengths = 0; reads = 0; writes = 0; cuts = 0; whole_syncs = 0; data_syncs = 0 }

-- a count after one more call
unfoldable pub count_after_call : ℕ → ℕ
count_after_call n = max n (min (n + 1) (2 ^ 64 - 1))

-- the calls on a side's file; whether its next sync has to be a whole one, as at first and after a cut that was tried;
-- and whether the side is lost, since a sync of it failed
pub record SideTally : Type 0 where
  pub calls : FileCalls
  pub whole_due : Bool
  pub lost : Bool

-- ---- the effect of one call on a side on its file's counts
-- its length was asked for once
abbrev pub AsksLength : FileCalls → FileCalls → Type 0
AsksLength c c' = c' ≡ record c { lengths = count_after_call c.lengths }

-- it was read, and nothing else
pub record ReadsAlone (c c' : FileCalls) : Type 0 where
  pub lengths : c'.lengths ≡ c.lengths
  pub reads : c.reads ≤ c'.reads
  pub writes : c'.writes ≡ c.writes
  pub cuts : c'.cuts ≡ c.cuts
  pub whole_syncs : c'.whole_syncs ≡ c.whole_syncs
  pub data_syncs : c'.data_syncs ≡ c.data_syncs

-- it was written, and nothing else
pub record MakesWriteAlone (c c' : FileCalls) : Type 0 where
  pub lengths : c'.lengths ≡ c.lengths
  pub reads : c'.reads ≡ c.reads
  pub writes : c.writes ≤ c'.writes
  pub cuts : c'.cuts ≡ c.cuts
  pub whole_syncs : c'.whole_syncs ≡ c.whole_syncs
  pub data_syncs : c'.data_syncs ≡ c.data_syncs

-- its length was asked for once at most, it was written, and nothing else
pub record AsksAndWrites (c c' : FileCalls) : Type 0 where
  pub lengths : (c'.lengths ≡ c.lengths) ⊎ (c'.lengths ≡ count_after_call c.lengths)
  pub reads : c'.reads ≡ c.reads
  pub writes : c.writes ≤ c'.writes
  pub cuts : c'.cuts ≡ c.cuts
  pub whole_syncs : c'.whole_syncs ≡ c.whole_syncs
  pub data_syncs : c'.data_syncs ≡ c.data_syncs

-- its length was asked for once, it was cut once at most, and nothing else
pub record AsksAndCuts (c c' : FileCalls) : Type 0 where
  pub lengths : c'.lengths ≡ count_after_call c.lengths
  pub reads : c'.reads ≡ c.reads
  pub writes : c'.writes ≡ c.writes
  pub cuts : (c'.cuts ≡ c.cuts) ⊎ (c'.cuts ≡ count_after_call c.cuts)
  pub whole_syncs : c'.whole_syncs ≡ c.whole_syncs
  pub data_syncs : c'.data_syncs ≡ c.data_syncs

-- a call that neither cuts nor syncs: a lost side makes none and fails, no side becomes lost, and no sync becomes due
pub record OnSide (makes : FileCalls → FileCalls → Type 0) (failed : Type 0) (s s' : SideTally) : Type 0 where
  pub refused : s.lost ≡ true → (s' ≡ s) × failed
  pub made : s.lost ≡ false → makes s.calls s'.calls
  pub whole_due : s'.whole_due ≡ s.whole_due
  pub lost : s'.lost ≡ s.lost

-- its file's cuts and the whole sync that is due, after one cut, whatever its outcome
pub record HasCutSide (s s' : SideTally) : Type 0 where
  pub cuts : s'.calls.cuts ≡ count_after_call s.calls.cuts
  pub whole_due : s'.whole_due ≡ true

-- the same without a cut
pub record IsUncut (s s' : SideTally) : Type 0 where
  pub cuts : s'.calls.cuts ≡ s.calls.cuts
  pub whole_due : s'.whole_due ≡ s.whole_due

-- a cut: a lost side makes no call and fails, and no side becomes lost; after a cut that was tried a whole sync is due
pub record CutsSide (failed : Type 0) (s s' : SideTally) : Type 0 where
  pub refused : s.lost ≡ true → (s' ≡ s) × failed
  pub made : s.lost ≡ false → AsksAndCuts s.calls s'.calls
  pub cut : IsUncut s s' ⊎ HasCutSide s s'
  pub lost : s'.lost ≡ s.lost

-- a sync: one call of the kind that is due, unless the side is lost; it is lost exactly after a sync that failed, and no
-- whole sync is due exactly after one that succeeded
pub record SyncsSide (done failed : Type 0) (s s' : SideTally) : Type 0 where
  pub refused : s.lost ≡ true → (s' ≡ s) × failed
  pub due : s.lost ≡ false → s.whole_due ≡ true → s'.calls ≡ record s.calls { whole_syncs = count_after_call s.calls.whole_syncs }
  pub bytes : s.lost ≡ false → s.whole_due ≡ false → s'.calls ≡ record s.calls { data_syncs = count_after_call s.calls.data_syncs }
  pub sound : done → s'.lost ≡ false
  pub lost : failed → s'.lost ≡ true
  pub settled : done → s'.whole_due ≡ false
  pub kept : failed → s'.whole_due ≡ s.whole_due

-- the syncs of a folder; how often the folder that it stands in was looked for, opened, and synced; and how many syncs
-- failed
pub record FolderSyncs : Type 0 where
  pub own : ℕ
  pub looked : ℕ
  pub opened : ℕ
  pub parent : ℕ
  pub failed : ℕ

-- a folder that was just opened
abbrev pub no_syncs : FolderSyncs
no_syncs = record { own = 0; looked = 0; opened = 0; parent = 0; failed = 0 }

-- a folder was synced once; its parent was looked for once if its sync was due, and else it wasn't; it was synced exactly
-- if it was opened; and no sync failed
pub record AreSynced (is_due : Bool) (f : FolderSyncs) : Type 0 where
  pub own : f.own ≡ 1
  pub looked : is_due ≡ true → f.looked ≡ 1
  pub spared : is_due ≡ false → f.looked ≡ 0
  pub opened : f.opened ≤ f.looked
  pub parent : f.parent ≡ f.opened
  pub failed : f.failed ≡ 0
