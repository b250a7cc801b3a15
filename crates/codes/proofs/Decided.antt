-- For each public call: any two permitted outcomes coincide.
-- Assumes nothing.
use mathlib.Core.Path.{sym, ap, ◌∙◌}
use Prim.Native.Nat.{ℕ}
use denote.Param.Laws.{Laws}
use denote.RattleType.{RattleType}
use mir.Syntax.{Dict}
use Rattle.codes.specs.declared.units.Chars.{Chars}
use Rattle.codes.specs.declared.units.Bytes.{Bytes}
use Rattle.codes.specs.declared.widths.Width.{Ghosts}
use Rattle.codes.proofs.AnswerLaws.{told, word128_told}
use Rattle.codes.proofs.Permitted.{Decided, Once, skip}
use Rattle.codes.proofs.RefusalLaws.{says-once}
use Rattle.codes.proofs.refusals.Refusal.number.Kinds as refusal-number·kinds
use Rattle.codes.proofs.refusals.Refusal.number.Reads as refusal-number
use Rattle.codes.proofs.refusals.number_of.Kinds as number-of·kinds
use Rattle.codes.proofs.refusals.number_of.Reads as number-of
use Rattle.codes.proofs.units.Chars.new.Kinds as chars-new·kinds
use Rattle.codes.proofs.units.Chars.new.Reads as chars-new
use Rattle.codes.proofs.units.Chars.count.Kinds as chars-count·kinds
use Rattle.codes.proofs.units.Chars.count.Reads as chars-count
use Rattle.codes.proofs.units.Chars.bytes_as.Kinds as chars-bytes-as·kinds
use Rattle.codes.proofs.units.Chars.bytes_as.Reads as chars-bytes-as
use Rattle.codes.proofs.units.Bytes.new.Kinds as bytes-new·kinds
use Rattle.codes.proofs.units.Bytes.new.Reads as bytes-new
use Rattle.codes.proofs.units.Bytes.count.Kinds as bytes-count·kinds
use Rattle.codes.proofs.units.Bytes.count.Reads as bytes_count
use Rattle.codes.proofs.letters.pack_char.Kinds as pack-char·kinds
use Rattle.codes.proofs.letters.pack_char.Reads as pack-char
use Rattle.codes.proofs.letters.pack_char_lossy.Kinds as pack-char-lossy·kinds
use Rattle.codes.proofs.letters.pack_char_lossy.Reads as pack-char-lossy
use Rattle.codes.proofs.letters.char_is_ambiguous.Kinds as char-is-ambiguous·kinds
use Rattle.codes.proofs.letters.char_is_ambiguous.Reads as char-is-ambiguous
use Rattle.codes.proofs.letters.unpack_base.Kinds as unpack-base·kinds
use Rattle.codes.proofs.letters.unpack_base.Reads as unpack-base
use Rattle.codes.proofs.letters.complement_char.Kinds as complement-char·kinds
use Rattle.codes.proofs.letters.complement_char.Reads as complement-char
use Rattle.codes.proofs.letters.complement_base.Kinds as complement-base·kinds
use Rattle.codes.proofs.letters.complement_base.Reads as complement-base
use Rattle.codes.proofs.words.pack_kmer_lossy.Kinds as pack-kmer-lossy·kinds
use Rattle.codes.proofs.words.pack_kmer_lossy.Reads as pack-kmer-lossy
use Rattle.codes.proofs.words.pack_kmer_u128_lossy.Kinds as pack-kmer-u128-lossy·kinds
use Rattle.codes.proofs.words.pack_kmer_u128_lossy.Reads as pack-kmer-u128-lossy
use Rattle.codes.proofs.words.unpack_kmer.Kinds as unpack-kmer·kinds
use Rattle.codes.proofs.words.unpack_kmer.Reads as unpack-kmer
use Rattle.codes.proofs.words.unpack_kmer_u128.Kinds as unpack-kmer-u128·kinds
use Rattle.codes.proofs.words.unpack_kmer_u128.Reads as unpack-kmer-u128
use Rattle.codes.proofs.words.rev_u64.Kinds as rev-u64·kinds
use Rattle.codes.proofs.words.rev_u64.Reads as rev-u64
use Rattle.codes.proofs.words.rev_u128.Kinds as rev-u128·kinds
use Rattle.codes.proofs.words.rev_u128.Reads as rev-u128

pub refusal_number_decided : Decided 0 refusal-number·kinds.ps refusal-number·kinds.r refusal-number.Post
refusal_number_decided κs a x y s t p q = p ∙ sym q

pub number_of_decided : Decided 0 number-of·kinds.ps number-of·kinds.r number-of.Post
number_of_decided κs a x y s t p q = p ∙ sym q

pub chars_new_decided : Decided 0 chars-new·kinds.ps chars-new·kinds.r chars-new.Post
chars_new_decided κs a x y s t p q = ap (λ (m : ℕ). let c : Chars = record { 0 = m } in c) (p ∙ sym q)

pub chars_count_decided : Decided 0 chars-count·kinds.ps chars-count·kinds.r chars-count.Post
chars_count_decided κs a x y s t p q = p ∙ sym q

pub bytes_new_decided : Decided 0 bytes-new·kinds.ps bytes-new·kinds.r bytes-new.Post
bytes_new_decided κs a x y s t p q = ap (λ (m : ℕ). let c : Bytes = record { 0 = m } in c) (p ∙ sym q)

pub bytes_count_decided : Decided 0 bytes-count·kinds.ps bytes-count·kinds.r bytes_count.Post
bytes_count_decided κs a x y s t p q = p ∙ sym q

pub pack_char_decided : Decided 0 pack-char·kinds.ps pack-char·kinds.r pack-char.Post
pack_char_decided κs a x y s t p q = says-once told x y (p ∙ sym q)

pub pack_char_lossy_decided : Decided 0 pack-char-lossy·kinds.ps pack-char-lossy·kinds.r pack-char-lossy.Post
pack_char_lossy_decided κs a x y s t p q = p ∙ sym q

pub char_is_ambiguous_decided : Decided 0 char-is-ambiguous·kinds.ps char-is-ambiguous·kinds.r char-is-ambiguous.Post
char_is_ambiguous_decided κs a x y s t p q = p ∙ sym q

pub unpack_base_decided : Decided 0 unpack-base·kinds.ps unpack-base·kinds.r unpack-base.Post
unpack_base_decided κs a x y s t p q = says-once told x y (p ∙ sym q)

pub complement_char_decided : Decided 0 complement-char·kinds.ps complement-char·kinds.r complement-char.Post
complement_char_decided κs a x y s t p q = says-once told x y (p ∙ sym q)

pub complement_base_decided : Decided 0 complement-base·kinds.ps complement-base·kinds.r complement-base.Post
complement_base_decided κs a x y s t p q = says-once told x y (p ∙ sym q)

pub pack_kmer_lossy_decided : Decided 1 pack-kmer-lossy·kinds.ps pack-kmer-lossy·kinds.r pack-kmer-lossy.Post
pack_kmer_lossy_decided κs a x y s t p q = says-once told x y (p ∙ sym q)

pub pack_kmer_u128_lossy_decided : Decided 1 pack-kmer-u128-lossy·kinds.ps pack-kmer-u128-lossy·kinds.r pack-kmer-u128-lossy.Post
pack_kmer_u128_lossy_decided κs a x y s t p q = says-once word128_told x y (p ∙ sym q)

pub unpack_kmer_decided : Once 1 unpack-kmer·kinds.ps unpack-kmer·kinds.r unpack-kmer.Post
unpack_kmer_decided κs a x y v w p q =
    let says = p.0 ∙ sym q.0 in
    let out = (rw p.0 at p.1) ∙ sym (rw q.0 at q.1) in
    λ i. (says i, skip 2 (out i, tt))

pub unpack_kmer_u128_decided : Once 1 unpack-kmer-u128·kinds.ps unpack-kmer-u128·kinds.r unpack-kmer-u128.Post
unpack_kmer_u128_decided κs a x y v w p q =
    let says = p.0 ∙ sym q.0 in
    let out = (rw p.0 at p.1) ∙ sym (rw q.0 at q.1) in
    λ i. (says i, skip 3 (out i, tt))

-- at every width W
module _ (T : RattleType) (L : Laws T) (W : Ghosts T.Denot) (D : Dict) where
  pub chars_bytes_as_decided : Decided 1 (chars-bytes-as·kinds.ps T L) (chars-bytes-as·kinds.r T L) (chars-bytes-as.Post T L W D)
  chars_bytes_as_decided κs a x y s t p q = ap (λ (m : ℕ). let c : Bytes = record { 0 = m } in c) (p ∙ sym q)

  pub rev_u64_decided : Decided 1 (rev-u64·kinds.ps T L) (rev-u64·kinds.r T L) (rev-u64.Post T L W D)
  rev_u64_decided κs a x y s t p q = says-once told x y (p ∙ sym q)

  pub rev_u128_decided : Decided 1 (rev-u128·kinds.ps T L) (rev-u128·kinds.r T L) (rev-u128.Post T L W D)
  rev_u128_decided κs a x y s t p q = says-once word128_told x y (p ∙ sym q)
