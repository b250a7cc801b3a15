-- For each public call that has refusals: where its number is not 0, every other number is 0, and what is lent to be written is what it was.
-- Assumes nothing.
use denote.Param.Laws.{Laws}
use denote.RattleType.{RattleType}
use mir.Syntax.{Dict}
use Rattle.codes.specs.Answers.{says, word128_says}
use Rattle.codes.specs.declared.widths.Width.{Ghosts}
use Rattle.codes.proofs.Permitted.{Refuses, skip}
use Rattle.codes.proofs.RefusalLaws.{outcome_says, refused_keeps}
use Rattle.codes.proofs.letters.pack_char.Kinds as pack-char·kinds
use Rattle.codes.proofs.letters.pack_char.Reads as pack-char
use Rattle.codes.proofs.letters.unpack_base.Kinds as unpack-base·kinds
use Rattle.codes.proofs.letters.unpack_base.Reads as unpack-base
use Rattle.codes.proofs.letters.complement_char.Kinds as complement-char·kinds
use Rattle.codes.proofs.letters.complement_char.Reads as complement-char
use Rattle.codes.proofs.letters.complement_base.Kinds as complement-base·kinds
use Rattle.codes.proofs.letters.complement_base.Reads as complement-base
use Rattle.codes.proofs.words.pack_kmer_lossy.Kinds as pack-kmer-lossy·kinds
use Rattle.codes.proofs.words.pack_kmer_lossy.Reads as pack-kmer-lossy
use Rattle.codes.proofs.words.pack_kmer_u128_lossy.Kinds as pack-kmer-u128-lossy·kinds
use Rattle.codes.proofs.words.pack_kmer_u128_lossy.Reads as pack-kmer-u128-lossy
use Rattle.codes.proofs.words.unpack_kmer.Kinds as unpack-kmer·kinds
use Rattle.codes.proofs.words.unpack_kmer.Reads as unpack-kmer
use Rattle.codes.proofs.words.unpack_kmer_u128.Kinds as unpack-kmer-u128·kinds
use Rattle.codes.proofs.words.unpack_kmer_u128.Reads as unpack-kmer-u128
use Rattle.codes.proofs.words.rev_u64.Kinds as rev-u64·kinds
use Rattle.codes.proofs.words.rev_u64.Reads as rev-u64
use Rattle.codes.proofs.words.rev_u128.Kinds as rev-u128·kinds
use Rattle.codes.proofs.words.rev_u128.Reads as rev-u128

pub pack_char_refused : Refuses 0 pack-char·kinds.ps pack-char·kinds.r pack-char.Post (λ κs. says) (λ κs a. (0, skip 1 tt))
pack_char_refused κs a x v p h = let n = rw p at h in rw (p, refused_keeps)

pub unpack_base_refused : Refuses 0 unpack-base·kinds.ps unpack-base·kinds.r unpack-base.Post (λ κs. says) (λ κs a. (0, skip 1 tt))
unpack_base_refused κs a x v p h = let n = rw p at h in rw (p, refused_keeps)

pub complement_char_refused : Refuses 0 complement-char·kinds.ps complement-char·kinds.r complement-char.Post (λ κs. says) (λ κs a. (0, skip 1 tt))
complement_char_refused κs a x v p h = let n = rw p at h in rw (p, refused_keeps)

pub complement_base_refused : Refuses 0 complement-base·kinds.ps complement-base·kinds.r complement-base.Post (λ κs. says) (λ κs a. (0, skip 1 tt))
complement_base_refused κs a x v p h = let n = rw p at h in rw (p, refused_keeps)

pub pack_kmer_lossy_refused : Refuses 1 pack-kmer-lossy·kinds.ps pack-kmer-lossy·kinds.r pack-kmer-lossy.Post (λ κs. says) (λ κs a. (0, skip 1 tt))
pack_kmer_lossy_refused κs a x v p h = let n = rw p at h in rw (p, refused_keeps)

pub pack_kmer_u128_lossy_refused : Refuses 1 pack-kmer-u128-lossy·kinds.ps pack-kmer-u128-lossy·kinds.r pack-kmer-u128-lossy.Post (λ κs. word128_says) (λ κs a. ((0, 0), skip 1 tt))
pack_kmer_u128_lossy_refused κs a x v p h = let n = rw p at h in rw (p, refused_keeps)

pub unpack_kmer_refused : Refuses 1 unpack-kmer·kinds.ps unpack-kmer·kinds.r unpack-kmer.Post (λ κs. outcome_says) (λ κs a. (tt, skip 2 (a.1.1.0.now, tt)))
unpack_kmer_refused κs a x v p h = let e = simp refused_keeps at p.1 in λ i. (tt, skip 2 (e i, tt))

pub unpack_kmer_u128_refused : Refuses 1 unpack-kmer-u128·kinds.ps unpack-kmer-u128·kinds.r unpack-kmer-u128.Post (λ κs. outcome_says) (λ κs a. (tt, skip 3 (a.1.1.1.0.now, tt)))
unpack_kmer_u128_refused κs a x v p h = let e = simp refused_keeps at p.1 in λ i. (tt, skip 3 (e i, tt))

-- at every width W
module _ (T : RattleType) (L : Laws T) (W : Ghosts T.Denot) (D : Dict) where
  pub rev_u64_refused : Refuses 1 (rev-u64·kinds.ps T L) (rev-u64·kinds.r T L) (rev-u64.Post T L W D) (λ κs. says) (λ κs a. (0, skip 2 tt))
  rev_u64_refused κs a x v p h = let n = rw p at h in rw (p, refused_keeps)

  pub rev_u128_refused : Refuses 1 (rev-u128·kinds.ps T L) (rev-u128·kinds.r T L) (rev-u128.Post T L W D) (λ κs. word128_says) (λ κs a. ((0, 0), skip 3 tt))
  rev_u128_refused κs a x v p h = let n = rw p at h in rw (p, refused_keeps)
