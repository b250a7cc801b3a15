-- What functions inside this crate answer.
-- Assumes nothing.
use Rattle.std.specs.Prelude.{Bool, true, false, ◌&&◌, List, ◌≡◌, ℕ, ◌+◌, ◌<◌, leb, length, Result, Option, Some, None, option_map}
use Rattle.codes.specs.Answers.{says_by}
use Rattle.codes.specs.Codes.{pick}
use Rattle.codes.specs.Refusals.{Answer}
use Rattle.codes.specs.declared.refusals.Refusal.{Refusal}
use Rattle.twobit.specs.Reading.{block_count, size_at, masks_place, dna_place, is_record, name_size, offset_at, entry_end, is_big}
use Rattle.twobit.specs.declared.inner.records.Table.{Table}
use Rattle.twobit.specs.declared.inner.records.Parts.{Parts}
use Rattle.twobit.specs.declared.inner.files.Header.{Header}
use Rattle.twobit.specs.declared.inner.files.Indexed.{Indexed}
use Rattle.twobit.specs.declared.inner.files.Behind.{Behind}
use Rattle.twobit.specs.declared.inner.filling.Ready.{Ready}

-- how many blocks, and the byte behind them
abbrev pub table_says : Option Table → Option (ℕ × ℕ)
table_says o = option_map (λ t. (t.count, t.end)) o

-- the size; the number of N blocks, of mask blocks; where the mask blocks and the packed bases begin
abbrev pub Places : Type 0
Places = ℕ × (ℕ × (ℕ × (ℕ × ℕ)))

abbrev pub places : Parts → Places
places p = (p.size, (p.blocks, (p.masks, (p.masks_at, p.dna))))

abbrev pub parts_say : Option Parts → Option Places
parts_say o = option_map places o

abbrev pub parts_of : Bool → List ℕ → ℕ → Places
parts_of big file r =
    (size_at big file r, (block_count big file (r + 4), (block_count big file (masks_place big file r), (masks_place big file r, dna_place big file r))))

-- the byte order, and how many sequences
abbrev pub header_says : Option Header → Option (Bool × ℕ)
header_says o = option_map (λ h. (h.big, h.count)) o

-- the size of a name, the record's offset, and the byte behind the entry
abbrev pub index_says : Option Indexed → Option (ℕ × (ℕ × ℕ))
index_says o = option_map (λ e. (e.size, (e.offset, e.end))) o

abbrev pub entry_found : Bool → ℕ → List ℕ → ℕ → Option (ℕ × (ℕ × ℕ))
entry_found big k file at =
    pick (leb (entry_end big file k at) (length file)) (Some (name_size big file at, (offset_at big file k at, entry_end big file k at))) None

-- the record at byte r, if that lies in the file, is sound
abbrev pub KnownSound : Bool → List ℕ → ℕ → Type 0
KnownSound big file r = r < length file → is_record big file r ≡ true

-- the byte behind a sound entry, and the offset of its record
abbrev pub behind_says : Option Behind → Option (ℕ × ℕ)
behind_says o = option_map (λ b. (b.end, b.offset)) o

abbrev pub entry_sound : Bool → ℕ → List ℕ → ℕ → Option (ℕ × ℕ)
entry_sound big k file at =
    pick (leb (entry_end big file k at) (length file) && is_record big file (offset_at big file k at))
    (Some (entry_end big file k at, offset_at big file k at)) None

-- a record that can be read: its byte order; its size; the number of its N blocks, of its mask blocks; where its packed bases begin
abbrev pub Held : Type 0
Held = Bool × (ℕ × (ℕ × (ℕ × ℕ)))

abbrev pub none_held : Held
none_held = (false, (0, (0, (0, 0))))

abbrev pub held : Ready → Held
held x = (x.big, (x.parts.size, (x.parts.blocks, (x.parts.masks, x.parts.dna))))

abbrev pub ready_says : Result Ready Refusal → Answer Held
ready_says r = says_by held none_held r

abbrev pub held_at : List ℕ → ℕ → Held
held_at file r = (
  is_big file,
  (
    size_at (is_big file) file r,
    (
      block_count (is_big file) file (r + 4),
      (
        block_count (is_big file) file (masks_place (is_big file) file r),
        dna_place (is_big file) file r,
      ),
    ),
  ),
)
