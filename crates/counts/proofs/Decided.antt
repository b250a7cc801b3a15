-- For each public call: any two permitted outcomes coincide, in the answer, the buffer and the entries.
-- Assumes nothing.
use mathlib.Core.List.{List}
use mathlib.Core.Path.{◌≡◌, sym, ◌∙◌}
use Prim.Native.Nat.{ℕ}
use Rattle.codes.specs.Refusals.{Answer}
use Rattle.codes.proofs.Permitted.{Decided, Once, skip}
use Rattle.codes.proofs.RefusalLaws.{Told, says-once}
use Rattle.stores.proofs.AnswerLaws.{pushed_told, kept_told}
use Rattle.codes.proofs.AnswerLaws.{told}
use Rattle.counts.proofs.flags.clear.Kinds as clear·kinds
use Rattle.counts.proofs.flags.clear.Reads as clear
use Rattle.counts.proofs.flags.push_ascii.Kinds as push-ascii·kinds
use Rattle.counts.proofs.flags.push_ascii.Reads as push-ascii
use Rattle.counts.proofs.flags.push_seq.Kinds as push-seq·kinds
use Rattle.counts.proofs.flags.push_seq.Reads as push-seq
use Rattle.counts.proofs.flags.overwrite.Kinds as overwrite·kinds
use Rattle.counts.proofs.flags.overwrite.Reads as overwrite
use Rattle.counts.proofs.flags.cut.Kinds as cut·kinds
use Rattle.counts.proofs.flags.cut.Reads as cut
use Rattle.counts.proofs.flags.count.Kinds as count·kinds
use Rattle.counts.proofs.flags.count.Reads as count

-- an answer, a buffer and entries that are what a contract says
once : {A R : Type 0} {says : R → Answer A} → Told says → {a : Answer A} {b c : List ℕ} (r r' : R) {v v' u u' : List ℕ}
    → (says r ≡ a) × ((v ≡ b) × (u ≡ c)) → (says r' ≡ a) × ((v' ≡ b) × (u' ≡ c)) → ◌≡◌ {A = R × (List ℕ × List ℕ)} (r, (v, u)) (r', (v', u'))
once told r r' p q = λ i. (says-once told r r' (p.0 ∙ sym q.0) i, ((p.1.0 ∙ sym q.1.0) i, (p.1.1 ∙ sym q.1.1) i))

pub clear_decided : Once 2 clear·kinds.ps clear·kinds.r clear.Post
clear_decided κs a x y v w p q = λ i. let e = once kept_told x y p q i in (e.0, (e.1.0, (e.1.1, tt)))

pub push_ascii_decided : Once 3 push-ascii·kinds.ps push-ascii·kinds.r push-ascii.Post
push_ascii_decided κs a x y v w p q = λ i. let e = once pushed_told x y p q i in (e.0, (e.1.0, skip 1 (e.1.1, skip 1 tt)))

pub push_seq_decided : Once 3 push-seq·kinds.ps push-seq·kinds.r push-seq.Post
push_seq_decided κs a x y v w p q = λ i. let e = once pushed_told x y p q i in (e.0, (e.1.0, skip 1 (e.1.1, skip 3 tt)))

pub overwrite_decided : Once 3 overwrite·kinds.ps overwrite·kinds.r overwrite.Post
overwrite_decided κs a x y v w p q = λ i. let e = once kept_told x y p q i in (e.0, (e.1.0, skip 1 (e.1.1, skip 2 tt)))

pub cut_decided : Once 2 cut·kinds.ps cut·kinds.r cut.Post
cut_decided κs a x y v w p q = λ i. let e = once kept_told x y p q i in (e.0, (e.1.0, skip 1 (e.1.1, skip 1 tt)))

pub count_decided : Decided 2 count·kinds.ps count·kinds.r count.Post
count_decided κs a x y s t p q = says-once told x y (p ∙ sym q)
