-- For each exported function without a width: any two permitted outcomes coincide, in what is returned and in all that is lent to be written.
-- Assumes nothing.
use mathlib.Core.Path.{sym, ◌∙◌}
use Rattle.codes.proofs.Permitted.{Once, skip}
use Rattle.abi.proofs.form.tsiv_form_write.Kinds as form-write·kinds
use Rattle.abi.proofs.form.tsiv_form_write.Reads as form-write
use Rattle.abi.proofs.form.tsiv_form_read.Kinds as form-read·kinds
use Rattle.abi.proofs.form.tsiv_form_read.Reads as form-read
use Rattle.abi.proofs.letters.tsiv_pack_char.Kinds as pack-char·kinds
use Rattle.abi.proofs.letters.tsiv_pack_char.Reads as pack-char
use Rattle.abi.proofs.letters.tsiv_pack_char_lossy.Kinds as pack-char-lossy·kinds
use Rattle.abi.proofs.letters.tsiv_pack_char_lossy.Reads as pack-char-lossy
use Rattle.abi.proofs.letters.tsiv_char_is_ambiguous.Kinds as char-is-ambiguous·kinds
use Rattle.abi.proofs.letters.tsiv_char_is_ambiguous.Reads as char-is-ambiguous
use Rattle.abi.proofs.letters.tsiv_unpack_base.Kinds as unpack-base·kinds
use Rattle.abi.proofs.letters.tsiv_unpack_base.Reads as unpack-base
use Rattle.abi.proofs.letters.tsiv_complement_char.Kinds as complement-char·kinds
use Rattle.abi.proofs.letters.tsiv_complement_char.Reads as complement-char
use Rattle.abi.proofs.letters.tsiv_complement_base.Kinds as complement-base·kinds
use Rattle.abi.proofs.letters.tsiv_complement_base.Reads as complement-base
use Rattle.abi.proofs.rooms.tsiv_bases_room.Kinds as bases-room·kinds
use Rattle.abi.proofs.rooms.tsiv_bases_room.Reads as bases-room
use Rattle.abi.proofs.rooms.tsiv_flags_room.Kinds as flags-room·kinds
use Rattle.abi.proofs.rooms.tsiv_flags_room.Reads as flags-room
use Rattle.abi.proofs.rooms.tsiv_counts_room.Kinds as counts-room·kinds
use Rattle.abi.proofs.rooms.tsiv_counts_room.Reads as counts-room
use Rattle.abi.proofs.rooms.tsiv_form_room.Kinds as form-room·kinds
use Rattle.abi.proofs.rooms.tsiv_form_room.Reads as form-room
use Rattle.abi.proofs.rooms.tsiv_lanes_room.Kinds as lanes-room·kinds
use Rattle.abi.proofs.rooms.tsiv_lanes_room.Reads as lanes-room
use Rattle.abi.proofs.rooms.tsiv_version.Kinds as version·kinds
use Rattle.abi.proofs.rooms.tsiv_version.Reads as version
use Rattle.abi.proofs.words.tsiv_pack_kmer_lossy.Kinds as pack-kmer-lossy·kinds
use Rattle.abi.proofs.words.tsiv_pack_kmer_lossy.Reads as pack-kmer-lossy
use Rattle.abi.proofs.words.tsiv_pack_kmer_u128_lossy.Kinds as pack-kmer-u128-lossy·kinds
use Rattle.abi.proofs.words.tsiv_pack_kmer_u128_lossy.Reads as pack-kmer-u128-lossy
use Rattle.abi.proofs.words.tsiv_unpack_kmer.Kinds as unpack-kmer·kinds
use Rattle.abi.proofs.words.tsiv_unpack_kmer.Reads as unpack-kmer
use Rattle.abi.proofs.words.tsiv_unpack_kmer_u128.Kinds as unpack-kmer-u128·kinds
use Rattle.abi.proofs.words.tsiv_unpack_kmer_u128.Reads as unpack-kmer-u128
use Rattle.abi.proofs.words.tsiv_revcomp_u64.Kinds as revcomp-u64·kinds
use Rattle.abi.proofs.words.tsiv_revcomp_u64.Reads as revcomp-u64
use Rattle.abi.proofs.words.tsiv_revcomp_u128.Kinds as revcomp-u128·kinds
use Rattle.abi.proofs.words.tsiv_revcomp_u128.Reads as revcomp-u128
use Rattle.abi.proofs.words.tsiv_rev_u64.Kinds as rev-u64·kinds
use Rattle.abi.proofs.words.tsiv_rev_u64.Reads as rev-u64
use Rattle.abi.proofs.words.tsiv_rev_u128.Kinds as rev-u128·kinds
use Rattle.abi.proofs.words.tsiv_rev_u128.Reads as rev-u128

pub form_write_decided : Once 4 form-write·kinds.ps form-write·kinds.r form-write.Post
form_write_decided κs a x y v w p q =
    let answer = p.0 ∙ sym q.0 in
    let bytes = p.1 ∙ sym q.1 in
    λ i. ((answer i).no, skip 6 (bytes i, ((answer i).values, tt)))

pub form_read_decided : Once 4 form-read·kinds.ps form-read·kinds.r form-read.Post
form_read_decided κs a x y v w p q =
    let answer = p.0 ∙ sym q.0 in
    let base_bytes_lem = p.1.0 ∙ sym q.1.0 in
    let flag-bytes = p.1.1 ∙ sym q.1.1 in
    λ i. ((answer i).no, skip 1 (base_bytes_lem i, (flag-bytes i, ((answer i).values, tt))))

pub pack_char_decided : Once 1 pack-char·kinds.ps pack-char·kinds.r pack-char.Post
pack_char_decided κs a x y v w p q = let e = p ∙ sym q in λ i. ((e i).no, skip 1 ((e i).values, tt))

pub pack_char_lossy_decided : Once 0 pack-char-lossy·kinds.ps pack-char-lossy·kinds.r pack-char-lossy.Post
pack_char_lossy_decided κs a x y v w p q = let e = p ∙ sym q in λ i. (e i, skip 1 tt)

pub char_is_ambiguous_decided : Once 0 char-is-ambiguous·kinds.ps char-is-ambiguous·kinds.r char-is-ambiguous.Post
char_is_ambiguous_decided κs a x y v w p q = let e = p ∙ sym q in λ i. (e i, skip 1 tt)

pub unpack_base_decided : Once 1 unpack-base·kinds.ps unpack-base·kinds.r unpack-base.Post
unpack_base_decided κs a x y v w p q = let e = p ∙ sym q in λ i. ((e i).no, skip 1 ((e i).values, tt))

pub complement_char_decided : Once 1 complement-char·kinds.ps complement-char·kinds.r complement-char.Post
complement_char_decided κs a x y v w p q = let e = p ∙ sym q in λ i. ((e i).no, skip 1 ((e i).values, tt))

pub complement_base_decided : Once 1 complement-base·kinds.ps complement-base·kinds.r complement-base.Post
complement_base_decided κs a x y v w p q = let e = p ∙ sym q in λ i. ((e i).no, skip 1 ((e i).values, tt))

pub bases_room_decided : Once 0 bases-room·kinds.ps bases-room·kinds.r bases-room.Post
bases_room_decided κs a x y v w p q = let e = p ∙ sym q in λ i. (e i, skip 1 tt)

pub flags_room_decided : Once 0 flags-room·kinds.ps flags-room·kinds.r flags-room.Post
flags_room_decided κs a x y v w p q = let e = p ∙ sym q in λ i. (e i, skip 1 tt)

pub counts_room_decided : Once 0 counts-room·kinds.ps counts-room·kinds.r counts-room.Post
counts_room_decided κs a x y v w p q = let e = p ∙ sym q in λ i. (e i, skip 1 tt)

pub form_room_decided : Once 0 form-room·kinds.ps form-room·kinds.r form-room.Post
form_room_decided κs a x y v w p q = let e = p ∙ sym q in λ i. (e i, skip 1 tt)

pub lanes_room_decided : Once 0 lanes-room·kinds.ps lanes-room·kinds.r lanes-room.Post
lanes_room_decided κs a x y v w p q = let e = p ∙ sym q in λ i. (e i, skip 1 tt)

pub version_decided : Once 0 version·kinds.ps version·kinds.r version.Post
version_decided κs a x y v w p q = let e = p ∙ sym q in λ i. (e i, tt)

pub pack_kmer_lossy_decided : Once 2 pack-kmer-lossy·kinds.ps pack-kmer-lossy·kinds.r pack-kmer-lossy.Post
pack_kmer_lossy_decided κs a x y v w p q = let e = p ∙ sym q in λ i. ((e i).no, skip 1 ((e i).values, tt))

pub pack_kmer_u128_lossy_decided : Once 3 pack-kmer-u128-lossy·kinds.ps pack-kmer-u128-lossy·kinds.r pack-kmer-u128-lossy.Post
pack_kmer_u128_lossy_decided κs a x y v w p q = let e = p ∙ sym q in λ i. ((e i).no, skip 1 ((e i).values.0, ((e i).values.1, tt)))

pub unpack_kmer_decided : Once 1 unpack-kmer·kinds.ps unpack-kmer·kinds.r unpack-kmer.Post
unpack_kmer_decided κs a x y v w p q =
    let number = p.0 ∙ sym q.0 in
    let bytes = p.1 ∙ sym q.1 in
    λ i. (number i, skip 2 (bytes i, tt))

pub unpack_kmer_u128_decided : Once 1 unpack-kmer-u128·kinds.ps unpack-kmer-u128·kinds.r unpack-kmer-u128.Post
unpack_kmer_u128_decided κs a x y v w p q =
    let number = p.0 ∙ sym q.0 in
    let bytes = p.1 ∙ sym q.1 in
    λ i. (number i, skip 3 (bytes i, tt))

pub revcomp_u64_decided : Once 1 revcomp-u64·kinds.ps revcomp-u64·kinds.r revcomp-u64.Post
revcomp_u64_decided κs a x y v w p q = let e = p ∙ sym q in λ i. ((e i).no, skip 2 ((e i).values, tt))

pub revcomp_u128_decided : Once 2 revcomp-u128·kinds.ps revcomp-u128·kinds.r revcomp-u128.Post
revcomp_u128_decided κs a x y v w p q = let e = p ∙ sym q in λ i. ((e i).no, skip 3 ((e i).values.0, ((e i).values.1, tt)))

pub rev_u64_decided : Once 1 rev-u64·kinds.ps rev-u64·kinds.r rev-u64.Post
rev_u64_decided κs a x y v w p q = let e = p ∙ sym q in λ i. ((e i).no, skip 2 ((e i).values, tt))

pub rev_u128_decided : Once 2 rev-u128·kinds.ps rev-u128·kinds.r rev-u128.Post
rev_u128_decided κs a x y v w p q = let e = p ∙ sym q in λ i. ((e i).no, skip 3 ((e i).values.0, ((e i).values.1, tt)))
