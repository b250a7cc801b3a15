-- What a call of each kind leaves is a `step` of the history, by its contract as the checker reads it from the source: whatever satisfies
-- the contract, the buffer and the entries at exit and the length answered are those of the entry store after the call. And what a query answers of what
-- such calls leave is the plain count of the flags which they alone give.
-- Assumes nothing.
use Rattle.std.specs.Prelude.{Ok}
use borrow.Fn.Kinds.{Out, ParamKind, ResultKind, Dens, res_t, ended_of}
use contract.Lifetimes.{Lfts}
use denote.Triple.Clauses.{AtExit}
use mathlib.Core.List.{List, [], ◌∷◌}
use mathlib.Core.Path.{◌≡◌, sym, ◌∙◌}
use Prim.Native.Nat.{ℕ}
use lib.ListN.{length}
use lib.Seq.{slice}
use Rattle.codes.specs.Refusals.{Answer, answer, first, bad_end, bad_start}
use Rattle.fields.specs.Flags.{set_flags}
use Rattle.stores.specs.Answers.{pushed_says, kept_says}
use Rattle.stores.specs.Stores.{Call, clear, push_ascii, push_seq, overwrite, cut, outcome, answered, after}
use Rattle.codes.specs.Answers.{says}
use Rattle.counts.specs.Counts.{counted_outcome, counted_answer, bytes_after, queried}
use Rattle.counts.specs.History.{Counted, step, run, history}
use Rattle.counts.proofs.CallLaws.{clear-entries}
use Rattle.counts.proofs.Counted.{history-counted}
use Rattle.counts.proofs.flags.clear.Kinds as clear·kinds
use Rattle.counts.proofs.flags.clear.Reads as clear
use Rattle.counts.proofs.flags.push_ascii.Kinds as push-ascii·kinds
use Rattle.counts.proofs.flags.push_ascii.Reads as push-ascii
use Rattle.counts.proofs.flags.push_seq.Kinds as push-seq·kinds
use Rattle.counts.proofs.flags.push_seq.Reads as push-seq
use Rattle.counts.proofs.flags.overwrite.Kinds as overwrite·kinds
use Rattle.counts.proofs.flags.overwrite.Reads as overwrite
use Rattle.counts.proofs.flags.cut.Kinds as cut·kinds
use Rattle.counts.proofs.flags.cut.Reads as cut
use Rattle.counts.proofs.flags.count.Kinds as count·kinds
use Rattle.counts.proofs.flags.count.Reads as count

abbrev counted : List ℕ → ℕ → List ℕ → Counted
counted bytes len entries = record { store = record { bytes = bytes; len = len }; entries = entries }

-- a contract's call: what it answers, where the buffer and the entries stand at exit, what they are at entry, and the call of the history
abbrev Steps : (n : ℕ) (ps : List (ParamKind n)) (r : ResultKind n) → Out n ps r → ((κs : Lfts n) → (res_t r κs).Denot → Answer (ℕ × ℕ × ℕ))
    → ((κs : Lfts n) → AtExit (ended_of n ps r) κs → List ℕ × List ℕ) → ((κs : Lfts n) → Dens κs ps → Counted) → ((κs : Lfts n) → Dens κs ps → Call) → Type 0
Steps n ps r Q says left entry call =
    (κs : Lfts n) (a : Dens κs ps) (x : (res_t r κs).Denot) (s : AtExit (ended_of n ps r) κs) → Q κs a x s
    → counted (left κs s).0 (says κs x).values.2 (left κs s).1 ≡ step (entry κs a) (call κs a)

pub clear_called : (old : ℕ) → Steps 2 clear·kinds.ps clear·kinds.r clear.Post (λ κs. kept_says) (λ κs s. (s.0.now, s.1.0.now))
    (λ κs a. counted a.0.now old a.1.0.now) (λ κs a. clear)
unfolding counted_outcome counted_answer bytes_after answered after outcome
clear_called old κs a x s p =
    let entries = p.1.1 ∙ sym (clear-entries a.0.now 0 a.1.0.now) ∙ clear-entries a.0.now old a.1.0.now in
    λ i. counted (p.1.0 i) (p.0 i).values.2 (entries i)

pub push_ascii_called : Steps 3 push-ascii·kinds.ps push-ascii·kinds.r push-ascii.Post (λ κs. pushed_says) (λ κs s. (s.0.now, s.1.1.0.now))
    (λ κs a. counted a.0.now a.1.0.0 a.1.1.0.now) (λ κs a. push_ascii a.1.1.1.0.now)
push_ascii_called κs a x s p = λ i. counted (p.1.0 i) (p.0 i).values.2 (p.1.1 i)

pub push_seq_called : Steps 3 push-seq·kinds.ps push-seq·kinds.r push-seq.Post (λ κs. pushed_says) (λ κs s. (s.0.now, s.1.1.0.now))
    (λ κs a. counted a.0.now a.1.0.0 a.1.1.0.now) (λ κs a. push_seq a.1.1.1.0.now a.1.1.1.1.0.0 a.1.1.1.1.1.0.0)
push_seq_called κs a x s p = λ i. counted (p.1.0 i) (p.0 i).values.2 (p.1.1 i)

pub overwrite_called : Steps 3 overwrite·kinds.ps overwrite·kinds.r overwrite.Post (λ κs. kept_says) (λ κs s. (s.0.now, s.1.1.0.now))
    (λ κs a. counted a.0.now a.1.0.0 a.1.1.0.now) (λ κs a. overwrite a.1.1.1.0.0 a.1.1.1.1.0.now)
overwrite_called κs a x s p = λ i. counted (p.1.0 i) (p.0 i).values.2 (p.1.1 i)

pub cut_called : Steps 2 cut·kinds.ps cut·kinds.r cut.Post (λ κs. kept_says) (λ κs s. (s.0.now, s.1.1.0.now))
    (λ κs a. counted a.0.now a.1.0.0 a.1.1.0.now) (λ κs a. cut a.1.1.1.0.0)
cut_called κs a x s p = λ i. counted (p.1.0 i) (p.0 i).values.2 (p.1.1 i)

-- of what an accepted clear and the calls cs leave
pub count_called : (bs : List ℕ) (old : ℕ) (entries : List ℕ) → counted_outcome (length bs) 0 (length entries) clear ≡ Ok tt → (cs : List Call)
    → (κs : Lfts 2) (a : Dens κs count·kinds.ps) (x : (res_t count·kinds.r κs).Denot) (s : AtExit (ended_of 2 count·kinds.ps count·kinds.r) κs) → count.Post κs a x s
    → counted a.0.now a.1.0.0 a.1.1.0.now ≡ run (step (counted bs old entries) clear) cs
    → says x
    ≡ answer (first (bad_end (length (history (length bs) (length entries) [] cs)) a.1.1.1.1.0.0 ∷ bad_start a.1.1.1.0.0 a.1.1.1.1.0.0 ∷ []))
    (set_flags (slice a.1.1.1.0.0 a.1.1.1.1.0.0 (history (length bs) (length entries) [] cs))) 0
count_called bs old entries e cs κs a x s p q =
    let start : ℕ = a.1.1.1.0.0 in
    let end : ℕ = a.1.1.1.1.0.0 in
    p ∙ (λ i. queried (q i).store.bytes (q i).store.len (q i).entries start end) ∙ history-counted bs old entries e cs start end
