-- Both sides of each line of the rules: for each number that stands in a definition, the last value that is taken and the first that is not, or what stands on
-- either side of it; computed of the definitions themselves, one list under one statement. Lengths stand for what is lent.
-- Assumes nothing.
use Rattle.std.specs.Prelude.{Ok, Err, Some, None}
use mathlib.Core.Bool.{true, false}
use mathlib.Core.List.{List, [], ◌∷◌, ◌++◌}
use mathlib.Core.Path.{◌≡◌, refl, ap}
use Prim.Native.Nat.{ℕ, ◌+◌, ◌-◌, ◌*◌, ◌^◌}
use lib.ListN.{length, take, drop, replicate}
use Rattle.codes.specs.Answers.{says, word128_says, halves}
use Rattle.codes.specs.Codes.{up, trailing, char_at, tab, chars, lossy, flag, strict}
use Rattle.codes.specs.Refusals.{answer, first, number_of, too_long, bad_word, bad_letter, bad_capital, bad_code, no_room, view_tests, Outcome}
use Rattle.codes.specs.Words.{word, chars_of, pack}
use Rattle.codes.specs.declared.refusals.Refusal.{Refusal}
use Rattle.codes.specs.declared.refusals.Refusal.TheVariants.{TooLong, BadStore, BadView, BadRange, BadWord, BadLetter, BadForm, BadStream, NoRoom, Partial}
use Rattle.codes.specs.Windows.{any_set, window}
use Rattle.counts.specs.Blocks.{blocks, meets, whole_from, whole_to}
use Rattle.counts.specs.Counts.{counted_outcome, query_tests}
use Rattle.dna.specs.Dna.{dna}
use Rattle.dna.specs.Numbers.{number_at}
use Rattle.fasta.specs.Records.{at_most, opened, ordinal}
use Rattle.fasta.specs.Report.{heading, too_long_text, content, body}
use Rattle.fasta.specs.Steps.{too_short}
use Rattle.fields.specs.Fields.{slice_tests, word_tests, got}
use Rattle.fields.specs.Runs.{runs_from}
use Rattle.forms.specs.Forms.{bad_tracks, write_tests}
use Rattle.forms.specs.Numbers.{spelt, spelling}
use Rattle.forms.specs.Reading.{head_of, form_length, right_tracks, sound_from, is_form, read_tests}
use Rattle.lanes.specs.Lanes.{lane, padding, steps, bad_shape, bad_delays}
use Rattle.rows.specs.Columns.{decimal_in, decimal, columns}
use Rattle.runs.specs.Runs.{seq_start, gap_char, splice, written}
use Rattle.stores.specs.Changes.{run_start, run_end}
use Rattle.stores.specs.Stores.{clear, push_ascii, push_seq, overwrite, cut, outcome, after}
use Rattle.streams.specs.Streams.{room_tests, bad_step}
use Rattle.twobit.specs.Blocks.{blocks_from, all_inside, clear_of, apart}
use Rattle.twobit.specs.Files.{offset_size, spelled, record_size, header_of, file_of}
use Rattle.twobit.specs.Reading.{good_header, sequences, is_two_bit, past_last, info_answer, record_tests, record_outcome, record_answer}
use Rattle.twowrite.specs.Writing.{writing, many_sequences, start_tests, unequal, long_name, bad_state, far_record, add_tests, unfinished}
use Rattle.windows.specs.Windows.{bad_window, lane_window, fill_tests, run_tests}
use Rattle.writes.specs.Writes.{unpack_outcome, flip_outcome}
use Rattle.codes.proofs.words.pack_kmer_lossy.Kinds as pack·kinds
use Rattle.codes.proofs.words.pack_kmer_lossy.Reads as pack
use Rattle.codes.proofs.words.pack_kmer_u128_lossy.Kinds as pack128·kinds
use Rattle.codes.proofs.words.pack_kmer_u128_lossy.Reads as pack128
use Rattle.codes.proofs.words.unpack_kmer.Kinds as unpack·kinds
use Rattle.codes.proofs.words.unpack_kmer.Reads as unpack
use Rattle.codes.proofs.words.unpack_kmer_u128.Kinds as unpack128·kinds
use Rattle.codes.proofs.words.unpack_kmer_u128.Reads as unpack128
use Rattle.codes.proofs.words.rev_u64.Kinds as rev·kinds
use Rattle.codes.proofs.words.rev_u64.Reads as rev
use Rattle.codes.proofs.words.rev_u128.Kinds as rev128·kinds
use Rattle.codes.proofs.words.rev_u128.Reads as rev128
use Rattle.codes.specs.contracts.widths.Bases as bases
use Rattle.codes.specs.contracts.widths.BasesWidth.TheImpl as bases·width
use Rattle.codes.proofs.widths.Bases.TheLaws as bases·laws
use Rattle.codes.specs.contracts.widths.Flags as flags
use Rattle.codes.specs.contracts.widths.FlagsWidth.TheImpl as flags·width
use Rattle.codes.proofs.widths.Flags.TheLaws as flags·laws
use Rattle.vectors.proofs.ThereAndBack.{Call}

-- a call, or the tests of one, is done with the number `last`, and refused with `over`
abbrev pub Line : (ℕ → Outcome) → ℕ → ℕ → Refusal → Type 0
Line f last over r = ◌≡◌ {A = Outcome × Outcome} (f last, f over) ((Ok tt), Err r)

-- 2^28 bytes of a view, of a store's buffer, of a form, and of the buffers that one is read to
abbrev pub LongLines : Type 0
LongLines =
    Line (λ m. first (view_tests 2 m 0 0)) (2 ^ 28) (2 ^ 28 + 1) TooLong
    × Line (λ m. first (view_tests 1 m 0 0)) (2 ^ 28) (2 ^ 28 + 1) TooLong
    × Line (λ m. outcome 2 m 0 clear) (2 ^ 28) (2 ^ 28 + 1) TooLong
    × Line (λ m. outcome 2 m 0 (push_ascii [])) (2 ^ 28) (2 ^ 28 + 1) TooLong
    × Line (λ m. outcome 1 m 0 (cut 0)) (2 ^ 28) (2 ^ 28 + 1) TooLong
    × Line (λ m. first (query_tests m 0 0 0 0)) (2 ^ 28) (2 ^ 28 + 1) TooLong
    × Line (λ m. first (write_tests m 0 0 48 0 0 2)) (2 ^ 28) (2 ^ 28 + 1) TooLong
    × Line (λ m. first (write_tests 48 0 0 m 0 0 2)) (2 ^ 28) (2 ^ 28 + 1) TooLong
    × Line (λ m. first (too_long m ∷ [])) (2 ^ 28) (2 ^ 28 + 1) TooLong
    × Line (λ m. first (read_tests (1 ∷ 0 ∷ []) m 48)) (2 ^ 28) (2 ^ 28 + 1) TooLong
    × Line (λ m. first (read_tests (1 ∷ 0 ∷ []) 48 m)) (2 ^ 28) (2 ^ 28 + 1) TooLong

long-lines : LongLines
unfolding is_form head_of form_length spelt spelling chars char_at tab outcome
long-lines = (refl, refl, refl, refl, refl, refl, refl, refl, refl, refl, refl)

-- 48 bytes behind the last character: of a view, of a store, for a clear, a push, a view reversed, a form that is read
abbrev pub BehindLines : Type 0
BehindLines =
    Line (λ m. first (view_tests 2 m 0 0)) 48 47 BadView
    × Line (λ m. first (view_tests 1 m 0 0)) 48 47 BadView
    × Line (λ n. first (view_tests 2 49 0 n)) 4 5 BadView
    × Line (λ n. first (view_tests 1 49 0 n)) 8 9 BadView
    × Line (λ o. first (view_tests 2 49 o 3)) 1 2 BadView
    × Line (λ o. first (view_tests 1 49 o 5)) 3 4 BadView
    × Line (λ m. outcome 2 m 0 clear) 48 47 NoRoom
    × Line (λ m. outcome 2 m 0 (cut 0)) 48 47 BadStore
    × Line (λ n. outcome 2 49 n (cut 0)) 4 5 BadStore
    × Line (λ n. outcome 1 49 n (cut 0)) 8 9 BadStore
    × Line (λ n. outcome 2 49 1 (push_ascii (replicate n 65))) 3 4 NoRoom
    × Line (λ n. outcome 1 49 1 (push_ascii (replicate n 65))) 7 8 NoRoom
    × Line (λ n. outcome 2 50 1 (push_seq (replicate 50 0) 1 n)) 3 4 NoRoom
    × Line (λ n. outcome 1 50 1 (push_seq (replicate 50 0) 1 n)) 7 8 NoRoom
    × Line (λ m. flip_outcome 2 (replicate 49 0) 0 4 (replicate m 0)) 49 48 NoRoom
    × Line (λ m. flip_outcome 1 (replicate 49 0) 0 8 (replicate m 0)) 49 48 NoRoom
    × Line (λ m. first (read_tests (1 ∷ 0 ∷ []) m 48)) 48 47 NoRoom
    × Line (λ m. first (read_tests (1 ∷ 0 ∷ []) 48 m)) 48 47 NoRoom
    × (after 2 (replicate 49 9) 0 clear ≡ replicate 48 0 ++ (9 ∷ []))
    × (run_end 2 3 (push_ascii []) ≡ 0)
    × (run_end 2 3 (push_ascii (65 ∷ [])) ≡ 49)
    × (run_end 2 4 (push_ascii (65 ∷ [])) ≡ 50)
    × (run_start 2 3 (push_ascii (65 ∷ [])) ≡ 0)
    × (run_start 2 4 (push_ascii (65 ∷ [])) ≡ 1)
    × (run_end 2 9 (cut 4) ≡ 49)
    × (run_end 2 9 (cut 5) ≡ 50)

behind_lines : BehindLines
unfolding after outcome written splice pack word char_at tab is_form head_of form_length spelling chars flip_outcome
behind_lines = (refl, refl, refl, refl, refl, refl, refl, refl, refl, refl, refl, refl, refl, refl, refl, refl, refl, refl, refl, refl, refl, refl, refl, refl, refl, refl)

-- C8: four bases to a byte, eight flags
abbrev pub ByteLines : Type 0
ByteLines =
    (up 2 4 ≡ 1)
    × (up 2 5 ≡ 2)
    × (up 1 8 ≡ 1)
    × (up 1 9 ≡ 2)
    × (seq_start 2 4 0 ≡ 4)
    × (seq_start 2 5 0 ≡ 8)
    × (seq_start 1 8 7 ≡ 15)
    × (seq_start 1 9 8 ≡ 16)
    × (gap_char 2 ≡ 0)
    × (gap_char 1 ≡ 1)

byte_lines : ByteLines
byte_lines = (refl, refl, refl, refl, refl, refl, refl, refl, refl, refl)

-- an index, the end and the start of a slice, the end of an overwrite, of a cut, of a query, and its start
abbrev pub RangeLines : Type 0
RangeLines =
    (got 2 (replicate 49 255) 0 4 3 ≡ answer (Ok tt) 3 0)
    × (got 2 (replicate 49 255) 0 4 4 ≡ answer (Err BadRange) 0 0)
    × Line (λ e. first (slice_tests 2 49 0 4 0 e)) 4 5 BadRange
    × Line (λ s. first (slice_tests 2 49 0 4 s 2)) 2 3 BadRange
    × Line (λ s. outcome 2 49 4 (overwrite s (65 ∷ []))) 3 4 BadRange
    × Line (λ n. outcome 2 49 4 (cut n)) 4 5 BadRange
    × Line (λ e. first (query_tests 49 8 1 0 e)) 8 9 BadRange
    × Line (λ s. first (query_tests 49 8 1 s 5)) 5 6 BadRange

range_lines : RangeLines
unfolding outcome got chars char_at tab
range_lines = (refl, refl, refl, refl, refl, refl, refl, refl)

-- letters of a word: packed and unpacked up to 32, of two halves 64; reversed from 1 on, flags up to 64 and 128; room for each letter that is unpacked
abbrev pub WordLines : Type 0
WordLines =
    Line (λ k. first (bad_word 0 32 k ∷ [])) 32 33 BadWord
    × Line (λ k. first (bad_word 0 64 k ∷ [])) 64 65 BadWord
    × Line (λ k. first (bad_word 0 32 k ∷ no_room 4 k ∷ [])) 4 5 NoRoom
    × Line (λ k. first (bad_word 1 32 k ∷ [])) 1 0 BadWord
    × Line (λ k. first (bad_word 1 32 k ∷ [])) 32 33 BadWord
    × Line (λ k. first (bad_word 1 64 k ∷ [])) 1 0 BadWord
    × Line (λ k. first (bad_word 1 64 k ∷ [])) 64 65 BadWord
    × Line (λ k. first (bad_word 1 128 k ∷ [])) 1 0 BadWord
    × Line (λ k. first (bad_word 1 128 k ∷ [])) 128 129 BadWord
    × (halves (2 ^ 64 - 1) ≡ (2 ^ 64 - 1, 0))
    × (halves (2 ^ 64) ≡ (0, 1))
    × (first (bad_word 0 32 0 ∷ []) ≡ Ok tt)
    × Line (λ m. unpack_outcome (replicate 49 0) 0 4 (replicate m 0)) 4 3 NoRoom

word-lines : WordLines
unfolding unpack_outcome
word-lines = (refl, refl, refl, refl, refl, refl, refl, refl, refl, refl, refl, refl, refl)

-- the ranges of the calls on words, by their contracts
pub word-ranges :
    ((c : Call 1 pack·kinds.ps pack·kinds.r pack.Post) → (says c.says).no ≡ number_of (first (bad_word 0 32 (length c.given.0.now) ∷ [])))
    × ((c : Call 1 pack128·kinds.ps pack128·kinds.r pack128.Post) → (word128_says c.says).no ≡ number_of (first (bad_word 0 64 (length c.given.0.now) ∷ [])))
    × ((c : Call 1 unpack·kinds.ps unpack·kinds.r unpack.Post)
    → c.says ≡ first (bad_word 0 32 c.given.1.0.0 ∷ no_room (length c.given.1.1.0.now) c.given.1.0.0 ∷ []))
    × ((c : Call 1 unpack128·kinds.ps unpack128·kinds.r unpack128.Post)
    → c.says ≡ first (bad_word 0 64 c.given.1.1.0.0 ∷ no_room (length c.given.1.1.1.0.now) c.given.1.1.0.0 ∷ []))
    × ((c : Call 1 (rev·kinds.ps bases.the_row bases·laws.the_row_laws) (rev·kinds.r bases.the_row bases·laws.the_row_laws) (rev.Post bases.the_row bases·laws.the_row_laws bases·width.ghosts bases·width.dict)) → (says c.says).no ≡ number_of (first (bad_word 1 32 c.given.1.0.0 ∷ [])))
    × ((c : Call 1 (rev128·kinds.ps bases.the_row bases·laws.the_row_laws) (rev128·kinds.r bases.the_row bases·laws.the_row_laws) (rev128.Post bases.the_row bases·laws.the_row_laws bases·width.ghosts bases·width.dict)) → (word128_says c.says).no ≡ number_of (first (bad_word 1 64 c.given.1.1.0.0 ∷ [])))
    × ((c : Call 1 (rev·kinds.ps flags.the_row flags·laws.the_row_laws) (rev·kinds.r flags.the_row flags·laws.the_row_laws) (rev.Post flags.the_row flags·laws.the_row_laws flags·width.ghosts flags·width.dict)) → (says c.says).no ≡ number_of (first (bad_word 1 64 c.given.1.0.0 ∷ [])))
    × ((c : Call 1 (rev128·kinds.ps flags.the_row flags·laws.the_row_laws) (rev128·kinds.r flags.the_row flags·laws.the_row_laws) (rev128.Post flags.the_row flags·laws.the_row_laws flags·width.ghosts flags·width.dict)) → (word128_says c.says).no ≡ number_of (first (bad_word 1 128 c.given.1.1.0.0 ∷ [])))
word-ranges = (
  λ c. ap (λ (a : _). a.no) c.meets,
  λ c. ap (λ (a : _). a.no) c.meets,
  λ c. c.meets.0,
  λ c. c.meets.0,
  λ c. ap (λ (a : _). a.no) c.meets,
  λ c. ap (λ (a : _). a.no) c.meets,
  λ c. ap (λ (a : _). a.no) c.meets,
  λ c. ap (λ (a : _). a.no) c.meets,
)

-- characters of a view's word: 64 and 128 bits at each width, one or more where it is reversed
abbrev pub ViewWordLines : Type 0
ViewWordLines =
    Line (λ n. first (word_tests 2 80 0 n 0 64)) 32 33 BadWord
    × Line (λ n. first (word_tests 1 80 0 n 0 64)) 64 65 BadWord
    × Line (λ n. first (word_tests 2 80 0 n 0 128)) 64 65 BadWord
    × Line (λ n. first (word_tests 1 80 0 n 0 128)) 128 129 BadWord
    × Line (λ n. first (word_tests 2 80 0 n 1 64)) 1 0 BadWord
    × Line (λ n. first (word_tests 2 80 0 n 1 64)) 32 33 BadWord
    × (first (word_tests 2 80 0 0 0 64) ≡ Ok tt)

view_word_lines : ViewWordLines
view_word_lines = (refl, refl, refl, refl, refl, refl, refl)

-- a code to unpack or complement; the letters on either side of A, C, G, T and U, large and small
abbrev pub LetterLines : Type 0
LetterLines =
    Line (λ c. first (bad_code c ∷ [])) 3 4 BadLetter
    × Line (λ x. first (bad_letter x ∷ [])) 65 64 BadLetter
    × Line (λ x. first (bad_letter x ∷ [])) 65 66 BadLetter
    × Line (λ x. first (bad_letter x ∷ [])) 67 66 BadLetter
    × Line (λ x. first (bad_letter x ∷ [])) 67 68 BadLetter
    × Line (λ x. first (bad_letter x ∷ [])) 71 70 BadLetter
    × Line (λ x. first (bad_letter x ∷ [])) 71 72 BadLetter
    × Line (λ x. first (bad_letter x ∷ [])) 84 83 BadLetter
    × Line (λ x. first (bad_letter x ∷ [])) 85 86 BadLetter
    × Line (λ x. first (bad_letter x ∷ [])) 97 96 BadLetter
    × Line (λ x. first (bad_letter x ∷ [])) 97 98 BadLetter
    × Line (λ x. first (bad_letter x ∷ [])) 99 98 BadLetter
    × Line (λ x. first (bad_letter x ∷ [])) 99 100 BadLetter
    × Line (λ x. first (bad_letter x ∷ [])) 103 102 BadLetter
    × Line (λ x. first (bad_letter x ∷ [])) 103 104 BadLetter
    × Line (λ x. first (bad_letter x ∷ [])) 116 115 BadLetter
    × Line (λ x. first (bad_letter x ∷ [])) 117 118 BadLetter
    × Line (λ x. first (bad_capital x ∷ [])) 84 85 BadLetter
    × Line (λ x. first (bad_capital x ∷ [])) 65 97 BadLetter
    × (flag 85 ≡ 0)
    × (flag 86 ≡ 1)
    × (flag 117 ≡ 0)
    × (flag 78 ≡ 1)
    × (lossy 78 ≡ 3)

letter-lines : LetterLines
unfolding flag strict
letter-lines = (refl, refl, refl, refl, refl, refl, refl, refl, refl, refl, refl, refl, refl, refl, refl, refl, refl, refl, refl, refl, refl, refl, refl, refl)

-- the context, the factor and the delays of a stream; its lanes, in multiples of f C8; its steps; room for eight lanes of each
abbrev pub StreamLines : Type 0
StreamLines =
    Line (λ c. first (bad_shape c 1 ∷ [])) 1 0 BadStream
    × Line (λ c. first (bad_shape c 1 ∷ [])) (2 ^ 31) (2 ^ 31 + 1) BadStream
    × Line (λ f. first (bad_shape 1 f ∷ [])) 1 0 BadStream
    × Line (λ f. first (bad_shape 1 f ∷ [])) 2 3 BadStream
    × Line (λ d. first (bad_delays 0 d ∷ [])) (2 ^ 31) (2 ^ 31 + 1) BadStream
    × Line (λ d. first (bad_delays d (2 ^ 31) ∷ [])) (2 ^ 31) (2 ^ 31 + 1) BadStream
    × Line (λ d. first (bad_delays d 5 ∷ [])) 5 6 BadStream
    × (lane 2 32 1 1 ≡ 4)
    × (lane 2 33 1 1 ≡ 8)
    × (lane 1 64 1 1 ≡ 8)
    × (lane 1 65 1 1 ≡ 16)
    × (lane 2 64 1 2 ≡ 8)
    × (lane 2 65 1 2 ≡ 16)
    × (steps 2 3 3 1 ≡ 6)
    × (steps 2 2 3 1 ≡ 0)
    × (padding 2 3 3 1 ≡ 31)
    × Line (λ j. first (bad_step (steps 2 3 3 1) j ∷ [])) 5 6 BadStream
    × Line (λ m. first (room_tests (8 * steps 2 3 3 1) (m ∷ []))) 48 47 NoRoom

stream_lines : StreamLines
unfolding lane padding steps
stream_lines = (refl, refl, refl, refl, refl, refl, refl, refl, refl, refl, refl, refl, refl, refl, refl, refl, refl, refl)

-- flag windows: k; the skip; a whole window, where there are steps; room; a count and a step of the running state
abbrev pub WindowLines : Type 0
WindowLines =
    Line (λ k. first (bad_window k ∷ [])) 1 0 BadStream
    × Line (λ k. first (bad_window k ∷ [])) 96 97 BadStream
    × Line (λ s. first (fill_tests 10 3 3 s 99)) 10 11 BadStream
    × Line (λ s. first (fill_tests 10 3 3 s 99)) 2 1 Partial
    × Line (λ k. first (fill_tests 10 3 k 9 99)) 3 4 Partial
    × Line (λ n. first (fill_tests n 3 3 0 999)) 2 3 Partial
    × Line (λ m. first (fill_tests 10 3 3 2 m)) 64 63 NoRoom
    × Line (λ n. first (run_tests [] 10 3 3 (record { counts = replicate 8 n; at = 0 }))) 2 3 BadStream
    × Line (λ j. first (run_tests [] 10 3 3 (record { counts = replicate 8 0; at = j }))) 9 10 BadStream
    × Line (λ n. first (run_tests (1 ∷ []) 10 3 3 (record { counts = n ∷ replicate 7 0; at = 2 }))) 1 0 BadStream
    × (lane_window (0 ∷ 1 ∷ 0 ∷ 0 ∷ []) 8 2 2 0 ≡ 0xffff_ffff)
    × (lane_window (0 ∷ 1 ∷ 0 ∷ 0 ∷ []) 8 2 3 0 ≡ 0)

window-lines : WindowLines
unfolding lane steps window any_set
window-lines = (refl, refl, refl, refl, refl, refl, refl, refl, refl, refl, refl, refl)

-- blocks of 256 characters, an entry for each; a change of character 255 and of character 256
abbrev pub BlockLines : Type 0
BlockLines =
    (blocks 0 ≡ 0)
    × (blocks 1 ≡ 1)
    × (blocks 255 ≡ 1)
    × (blocks 256 ≡ 1)
    × (blocks 257 ≡ 2)
    × Line (λ n. counted_outcome 99 255 1 (push_ascii (replicate n 65))) 1 2 NoRoom
    × Line (λ n. counted_outcome 99 0 n (push_ascii (replicate 257 65))) 2 1 NoRoom
    × Line (λ n. first (query_tests 99 257 n 0 1)) 2 1 NoRoom
    × (meets (255, 256) 0 ≡ true)
    × (meets (256, 257) 0 ≡ false)
    × (meets (256, 257) 1 ≡ true)
    × (whole_from 256 ≡ 1)
    × (whole_from 257 ≡ 2)
    × (whole_to 0 511 ≡ 1)
    × (whole_to 0 512 ≡ 2)

block-lines : BlockLines
unfolding counted_outcome
block-lines = (refl, refl, refl, refl, refl, refl, refl, refl, refl, refl, refl, refl, refl, refl, refl)

-- a stored form: edition 1, 2^29 characters, equal tracks, seven bits to a group, five groups, shortest, no spare bit, room
abbrev pub FormLines : Type 0
FormLines =
    Line (λ b. first (read_tests (b ∷ 0 ∷ []) 48 48)) 1 0 BadForm
    × Line (λ b. first (read_tests (b ∷ 0 ∷ []) 48 48)) 1 2 BadForm
    × Line (λ n. first (bad_tracks n n ∷ [])) (2 ^ 29) (2 ^ 29 + 1) BadRange
    × Line (λ n. first (bad_tracks 3 n ∷ [])) 3 4 BadRange
    × ((bs : List ℕ) → sound_from bs (Some (record { value = 2 ^ 29 + 1; size = 5 })) ≡ false)
    × ((bs : List ℕ) → sound_from bs (Some (record { value = 2 ^ 29; size = 5 })) ≡ right_tracks bs (2 ^ 29) 6)
    × (spelt 5 127 ≡ 127 ∷ [])
    × (spelt 5 128 ≡ 128 ∷ 1 ∷ [])
    × (length (spelt 5 (2 ^ 28 - 1)) ≡ 4)
    × (length (spelt 5 (2 ^ 28)) ≡ 5)
    × (length (spelt 5 (2 ^ 29)) ≡ 5)
    × (spelling 5 (128 ∷ 128 ∷ 128 ∷ 128 ∷ 1 ∷ []) ≡ Some (record { value = 2 ^ 28; size = 5 }))
    × (spelling 5 (128 ∷ 128 ∷ 128 ∷ 128 ∷ 128 ∷ 1 ∷ []) ≡ None)
    × (spelling 5 (255 ∷ 0 ∷ []) ≡ None)
    × Line (λ b. first (read_tests (1 ∷ 1 ∷ b ∷ 1 ∷ []) 49 49)) 3 4 BadForm
    × Line (λ b. first (read_tests (1 ∷ 1 ∷ 3 ∷ b ∷ []) 49 49)) 1 2 BadForm
    × Line (λ m. first (write_tests 49 0 4 49 0 4 m)) 4 3 NoRoom

form_lines : FormLines
unfolding is_form head_of form_length spelt spelling chars char_at tab
form_lines = (refl, refl, refl, refl, λ bs. refl, λ bs. refl, refl, refl, refl, refl, refl, refl, refl, refl, refl, refl, refl)

-- a .2bit file: 16 bytes of header, the signature, version 0; 2^32 sequences, a record's offset; a name of 255 bytes; the index, and room for it
abbrev pub FileLines : Type 0
FileLines =
    (good_header (header_of false 0 0) ≡ true)
    × (good_header (header_of true 0 0) ≡ true)
    × (good_header (take 15 (header_of false 0 0)) ≡ false)
    × (good_header (header_of false 1 0) ≡ false)
    × (good_header (66 ∷ drop 1 (header_of false 0 0)) ≡ false)
    × Line (λ n. first (many_sequences n ∷ [])) (2 ^ 32 - 1) (2 ^ 32) BadRange
    × Line (λ p. first (far_record offset_size p ∷ [])) (2 ^ 32 - 1) (2 ^ 32) BadRange
    × Line (λ n. first (long_name n ∷ [])) 255 256 BadRange
    × Line (λ m. first (start_tests offset_size 1 3 m)) 24 23 NoRoom
    × Line (λ n. first (bad_state offset_size (writing 16 24 24 1) n ∷ [])) 3 4 BadRange
    × Line (λ l. first (bad_state offset_size (writing 16 24 24 l) 3 ∷ [])) 1 0 BadRange
    × Line (λ p. first (bad_state offset_size (writing 16 24 p 1) 3 ∷ [])) 24 23 BadRange
    × Line (λ l. first (unfinished (writing 24 24 40 l) ∷ [])) 0 1 BadRange
    × Line (λ e. first (unfinished (writing e 24 40 0) ∷ [])) 24 23 BadRange
    × Line (λ p. first (unfinished (writing 24 24 p 0) ∷ [])) 24 23 BadRange
    × Line (λ e. first (unfinished (writing e e 24 0) ∷ [])) 16 15 BadRange
    × Line (λ n. first (unequal 3 n ∷ [])) 3 4 BadRange
    × Line (λ n. first (past_last (header_of false 0 2) n ∷ [])) 1 2 BadRange
    × (record_size (replicate 4 0) ≡ 17)
    × (record_size (replicate 5 0) ≡ 18)
    × (record_size (0 ∷ 1 ∷ 1 ∷ 0 ∷ []) ≡ 25)
    × (record_size (1 ∷ 0 ∷ 1 ∷ 0 ∷ []) ≡ 33)
    × Line (λ m. first (add_tests offset_size (writing 16 24 24 1) 3 49 0 4 (replicate 49 0) 0 4 m)) 41 40 NoRoom

file_lines : FileLines
unfolding good_header sequences number_at header_of spelled word chars_of chars char_at tab record_size runs_from
file_lines = (refl, refl, refl, refl, refl, refl, refl, refl, refl, refl, refl, refl, refl, refl, refl, refl, refl, refl, refl, refl, refl, refl, refl)

-- a file of one sequence, of one base; its record stands at byte 22
abbrev pub small : List ℕ
small = file_of false 0 offset_size (record { name = 65 ∷ []; bases = 0 ∷ []; flags = 0 ∷ [] } ∷ [])

-- the same, with one mask block; and with one N block
abbrev pub masked : List ℕ
masked = take 30 small ++ (spelled false 4 1 ++ (spelled false 4 0 ++ (spelled false 4 1 ++ drop 34 small)))

abbrev pub unknown : List ℕ
unknown = take 26 small ++ (spelled false 4 1 ++ (spelled false 4 0 ++ (spelled false 4 1 ++ drop 30 small)))

-- N blocks, inside the sequence and apart; how many N blocks and mask blocks a record has; the last byte of a file; 2^28 bytes of a buffer for its bases or its flags, and room for them
abbrev pub RecordLines : Type 0
RecordLines =
    (all_inside 5 (record { start = 3; size = 2 } ∷ []) ≡ true)
    × (all_inside 5 (record { start = 3; size = 3 } ∷ []) ≡ false)
    × (apart (record { start = 0; size = 3 } ∷ record { start = 3; size = 2 } ∷ []) ≡ true)
    × (apart (record { start = 0; size = 4 } ∷ record { start = 3; size = 2 } ∷ []) ≡ false)
    × (info_answer small 22 ≡ answer (Ok tt) (1, (0, 0)) (0, (0, 0)))
    × (info_answer masked 22 ≡ answer (Ok tt) (1, (0, 1)) (0, (0, 0)))
    × (info_answer unknown 22 ≡ answer (Ok tt) (1, (1, 0)) (0, (0, 0)))
    × (record_answer masked 22 (replicate 49 0) (replicate 49 0) ≡ answer (Ok tt) (1, 1) (0, 0))
    × (record_answer unknown 22 (replicate 49 0) (replicate 49 0) ≡ answer (Ok tt) (1, 0) (0, 0))
    × (is_two_bit small ≡ true)
    × (is_two_bit (take 38 small) ≡ false)
    × Line (λ m. first (record_tests small 22 m 49)) (2 ^ 28) (2 ^ 28 + 1) TooLong
    × Line (λ m. first (record_tests small 22 49 m)) (2 ^ 28) (2 ^ 28 + 1) TooLong
    × Line (λ m. record_outcome small 22 (replicate m 0) (replicate 49 0)) 49 48 NoRoom
    × Line (λ m. record_outcome small 22 (replicate 49 0) (replicate m 0)) 49 48 NoRoom

record_lines : RecordLines
unfolding apart file_of is_two_bit info_answer record_answer record_outcome dna tab word chars_of runs_from all_inside clear_of number_at blocks_from
record_lines = (refl, refl, refl, refl, refl, refl, refl, refl, refl, refl, refl, refl, refl, refl, refl)

-- the program: 16,384 letters of a record, and the buffers for them; numbers of 64 bits; 96 bytes to write to; the heading's 30; one CR of a line's end
abbrev pub RowLines : Type 0
RowLines =
    (body 16384 0 61 ≡ columns 16384 0 61)
    × (body 16385 0 61 ≡ too_long_text)
    × (at_most 16384 ≡ 16384)
    × (at_most 16385 ≡ 16385)
    × (at_most 16386 ≡ 16385)
    × (ordinal (opened (2 ^ 64 - 2)) ≡ 2 ^ 64 - 1)
    × (ordinal (opened (2 ^ 64 - 1)) ≡ 0)
    × (decimal 9 ≡ 57 ∷ [])
    × (decimal 10 ≡ 49 ∷ 48 ∷ [])
    × (length (decimal (2 ^ 64 - 1)) ≡ 20)
    × (up 2 16384 + trailing ≡ 4144)
    × (up 1 16384 + trailing ≡ 2096)
    × (too_short (replicate 96 0) ≡ false)
    × (too_short (replicate 95 0) ≡ true)
    × (length heading ≡ 30)
    × (content (65 ∷ 13 ∷ []) ≡ 65 ∷ [])
    × (content (65 ∷ 13 ∷ 13 ∷ []) ≡ 65 ∷ 13 ∷ [])
    × (content (13 ∷ 65 ∷ []) ≡ 13 ∷ 65 ∷ [])

row_lines : RowLines
unfolding body at_most decimal_in content
row_lines = (refl, refl, refl, refl, refl, refl, refl, refl, refl, refl, refl, refl, refl, refl, refl, refl, refl, refl)

pub both_sides :
    LongLines × BehindLines × ByteLines × RangeLines × WordLines × ViewWordLines × LetterLines
    × StreamLines × WindowLines × BlockLines × FormLines × FileLines × RecordLines × RowLines
both_sides = (long-lines, behind_lines, byte_lines, range_lines, word-lines, view_word_lines, letter-lines, stream_lines, window-lines, block-lines, form_lines, file_lines, record_lines, row_lines)
