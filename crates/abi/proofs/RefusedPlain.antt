-- For each exported function without a width that has refusals: where the number returned is not 0, every number given through a pointer is 0, and what is
-- lent to be written is what it was.
-- Assumes nothing.
use Rattle.codes.proofs.Permitted.{Refuses, skip}
use Rattle.codes.proofs.RefusalLaws.{no_of, refused_keeps}
use Rattle.forms.specs.Forms.{write_after, write_answer, write_outcome}
use Rattle.forms.specs.Reading.{bases_after, flags_after, read_answer, read_outcome}
use Rattle.abi.proofs.Returned.{returned}
use Rattle.abi.proofs.form.tsiv_form_write.Kinds as form-write·kinds
use Rattle.abi.proofs.form.tsiv_form_write.Reads as form-write
use Rattle.abi.proofs.form.tsiv_form_read.Kinds as form-read·kinds
use Rattle.abi.proofs.form.tsiv_form_read.Reads as form-read
use Rattle.abi.proofs.letters.tsiv_pack_char.Kinds as pack-char·kinds
use Rattle.abi.proofs.letters.tsiv_pack_char.Reads as pack-char
use Rattle.abi.proofs.letters.tsiv_unpack_base.Kinds as unpack-base·kinds
use Rattle.abi.proofs.letters.tsiv_unpack_base.Reads as unpack-base
use Rattle.abi.proofs.letters.tsiv_complement_char.Kinds as complement-char·kinds
use Rattle.abi.proofs.letters.tsiv_complement_char.Reads as complement-char
use Rattle.abi.proofs.letters.tsiv_complement_base.Kinds as complement-base·kinds
use Rattle.abi.proofs.letters.tsiv_complement_base.Reads as complement-base
use Rattle.abi.proofs.words.tsiv_pack_kmer_lossy.Kinds as pack-kmer-lossy·kinds
use Rattle.abi.proofs.words.tsiv_pack_kmer_lossy.Reads as pack-kmer-lossy
use Rattle.abi.proofs.words.tsiv_pack_kmer_u128_lossy.Kinds as pack-kmer-u128-lossy·kinds
use Rattle.abi.proofs.words.tsiv_pack_kmer_u128_lossy.Reads as pack-kmer-u128-lossy
use Rattle.abi.proofs.words.tsiv_unpack_kmer.Kinds as unpack-kmer·kinds
use Rattle.abi.proofs.words.tsiv_unpack_kmer.Reads as unpack-kmer
use Rattle.abi.proofs.words.tsiv_unpack_kmer_u128.Kinds as unpack-kmer-u128·kinds
use Rattle.abi.proofs.words.tsiv_unpack_kmer_u128.Reads as unpack-kmer-u128
use Rattle.abi.proofs.words.tsiv_revcomp_u64.Kinds as revcomp-u64·kinds
use Rattle.abi.proofs.words.tsiv_revcomp_u64.Reads as revcomp-u64
use Rattle.abi.proofs.words.tsiv_revcomp_u128.Kinds as revcomp-u128·kinds
use Rattle.abi.proofs.words.tsiv_revcomp_u128.Reads as revcomp-u128
use Rattle.abi.proofs.words.tsiv_rev_u64.Kinds as rev-u64·kinds
use Rattle.abi.proofs.words.tsiv_rev_u64.Reads as rev-u64
use Rattle.abi.proofs.words.tsiv_rev_u128.Kinds as rev-u128·kinds
use Rattle.abi.proofs.words.tsiv_rev_u128.Reads as rev-u128

pub form_write_refused : Refuses 4 form-write·kinds.ps form-write·kinds.r form-write.Post (λ κs. returned) (λ κs a. (tt, skip 6 (a.1.1.1.1.1.1.0.now, (0, tt))))
unfolding write_answer write_outcome write_after
form_write_refused κs a x v p h = let n = rw (no_of p.0) at h in let e = simp refused_keeps at p in λ i. (tt, skip 6 (e.1 i, ((e.0 i).values, tt)))

pub form_read_refused : Refuses 4 form-read·kinds.ps form-read·kinds.r form-read.Post (λ κs. returned) (λ κs a. (tt, skip 1 (a.1.0.now, (a.1.1.0.now, (0, tt)))))
unfolding read_answer read_outcome bases_after flags_after
form_read_refused κs a x v p h = let n = rw (no_of p.0) at h in let e = simp refused_keeps at p in λ i. (tt, skip 1 (e.1.0 i, (e.1.1 i, ((e.0 i).values, tt))))

pub pack_char_refused : Refuses 1 pack-char·kinds.ps pack-char·kinds.r pack-char.Post (λ κs. returned) (λ κs a. (tt, skip 1 (0, tt)))
pack_char_refused κs a x v p h = let n = rw (no_of p) at h in let e = simp refused_keeps at p in λ i. (tt, skip 1 ((e i).values, tt))

pub unpack_base_refused : Refuses 1 unpack-base·kinds.ps unpack-base·kinds.r unpack-base.Post (λ κs. returned) (λ κs a. (tt, skip 1 (0, tt)))
unpack_base_refused κs a x v p h = let n = rw (no_of p) at h in let e = simp refused_keeps at p in λ i. (tt, skip 1 ((e i).values, tt))

pub complement_char_refused : Refuses 1 complement-char·kinds.ps complement-char·kinds.r complement-char.Post (λ κs. returned) (λ κs a. (tt, skip 1 (0, tt)))
complement_char_refused κs a x v p h = let n = rw (no_of p) at h in let e = simp refused_keeps at p in λ i. (tt, skip 1 ((e i).values, tt))

pub complement_base_refused : Refuses 1 complement-base·kinds.ps complement-base·kinds.r complement-base.Post (λ κs. returned) (λ κs a. (tt, skip 1 (0, tt)))
complement_base_refused κs a x v p h = let n = rw (no_of p) at h in let e = simp refused_keeps at p in λ i. (tt, skip 1 ((e i).values, tt))

pub pack_kmer_lossy_refused : Refuses 2 pack-kmer-lossy·kinds.ps pack-kmer-lossy·kinds.r pack-kmer-lossy.Post (λ κs. returned) (λ κs a. (tt, skip 1 (0, tt)))
pack_kmer_lossy_refused κs a x v p h = let n = rw (no_of p) at h in let e = simp refused_keeps at p in λ i. (tt, skip 1 ((e i).values, tt))

pub pack_kmer_u128_lossy_refused : Refuses 3 pack-kmer-u128-lossy·kinds.ps pack-kmer-u128-lossy·kinds.r pack-kmer-u128-lossy.Post (λ κs. returned) (λ κs a. (tt, skip 1 (0, (0, tt))))
pack_kmer_u128_lossy_refused κs a x v p h = let n = rw (no_of p) at h in let e = simp refused_keeps at p in λ i. (tt, skip 1 ((e i).values.0, ((e i).values.1, tt)))

pub unpack_kmer_refused : Refuses 1 unpack-kmer·kinds.ps unpack-kmer·kinds.r unpack-kmer.Post (λ κs. returned) (λ κs a. (tt, skip 2 (a.1.1.0.now, tt)))
unpack_kmer_refused κs a x v p h = let n = rw p.0 at h in let e = simp refused_keeps at p in λ i. (tt, skip 2 (e.1 i, tt))

pub unpack_kmer_u128_refused : Refuses 1 unpack-kmer-u128·kinds.ps unpack-kmer-u128·kinds.r unpack-kmer-u128.Post (λ κs. returned) (λ κs a. (tt, skip 3 (a.1.1.1.0.now, tt)))
unpack_kmer_u128_refused κs a x v p h = let n = rw p.0 at h in let e = simp refused_keeps at p in λ i. (tt, skip 3 (e.1 i, tt))

pub revcomp_u64_refused : Refuses 1 revcomp-u64·kinds.ps revcomp-u64·kinds.r revcomp-u64.Post (λ κs. returned) (λ κs a. (tt, skip 2 (0, tt)))
revcomp_u64_refused κs a x v p h = let n = rw (no_of p) at h in let e = simp refused_keeps at p in λ i. (tt, skip 2 ((e i).values, tt))

pub revcomp_u128_refused : Refuses 2 revcomp-u128·kinds.ps revcomp-u128·kinds.r revcomp-u128.Post (λ κs. returned) (λ κs a. (tt, skip 3 (0, (0, tt))))
revcomp_u128_refused κs a x v p h = let n = rw (no_of p) at h in let e = simp refused_keeps at p in λ i. (tt, skip 3 ((e i).values.0, ((e i).values.1, tt)))

pub rev_u64_refused : Refuses 1 rev-u64·kinds.ps rev-u64·kinds.r rev-u64.Post (λ κs. returned) (λ κs a. (tt, skip 2 (0, tt)))
rev_u64_refused κs a x v p h = let n = rw (no_of p) at h in let e = simp refused_keeps at p in λ i. (tt, skip 2 ((e i).values, tt))

pub rev_u128_refused : Refuses 2 rev-u128·kinds.ps rev-u128·kinds.r rev-u128.Post (λ κs. returned) (λ κs a. (tt, skip 3 (0, (0, tt))))
rev_u128_refused κs a x v p h = let n = rw (no_of p) at h in let e = simp refused_keeps at p in λ i. (tt, skip 3 ((e i).values.0, ((e i).values.1, tt)))
