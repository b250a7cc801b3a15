-- What record_info says, record will: of whatever satisfies both contracts, on the same file and offset.
-- Assumes nothing.
use Rattle.std.specs.Prelude.{Result, Ok, Err}
use borrow.Fn.Kinds.{Dens, res_t, ended_of}
use contract.Lifetimes.{Lfts}
use denote.Triple.Clauses.{AtExit}
use mathlib.Core.Bool.{Bool, true, false, ◌&&◌, not}
use mathlib.Core.List.{List, [], ◌∷◌}
use mathlib.Core.Path.{◌≡◌, refl, sym, ap, ap₂, ◌∙◌, subst}
use Prim.Native.Nat.{ℕ, ◌+◌, ◌^◌, ◌≤◌}
use native.Mathlib.Omega.{arith}
use borrow.Author.Tests.{le-ltb}
use lib.ListN.{length}
use Rattle.codes.specs.Codes.{up, trailing}
use Rattle.codes.specs.Refusals.{answer, first, Outcome}
use Rattle.codes.specs.declared.refusals.Refusal.{Refusal}
use Rattle.codes.specs.declared.refusals.Refusal.TheVariants.{BadForm}
use Rattle.codes.specs.declared.units.Chars.{Chars}
use Rattle.codes.proofs.OutcomeLaws.{answer_done, answer_refused}
use Rattle.codes.proofs.RefusalLaws.{answer-outcome, answer-values, says-once}
use Rattle.codes.proofs.TestLaws.{first_at, first_none}
use Rattle.twobit.specs.Answers.{info_says, read_says}
use Rattle.twobit.specs.Reading.{good_header, is_big, is_record, size_at, block_count, masks_place, Informed, no_info, bad_record, info_outcome, info_answer, record_tests, record_outcome, record_answer}
use Rattle.twobit.specs.declared.answers.Info.{Info}
use Rattle.twobit.specs.declared.answers.Read.{Read}
use Rattle.twobit.proofs.Decided.{info_told, read_told}
use Rattle.twobit.proofs.reading.record_info.Kinds as record-info·kinds
use Rattle.twobit.proofs.reading.record_info.Reads as record-info
use Rattle.twobit.proofs.reading.record.Kinds as record·kinds
use Rattle.twobit.proofs.reading.record.Reads as record·reads

abbrev pub told_info : Chars → ℕ → ℕ → Info
told_info len blocks masks = record { len = len; blocks = blocks; masks = masks }

abbrev pub told_read : Chars → ℕ → Read
told_read len masks = record { len = len; masks = masks }

-- what an answer of record_info says of one of record, with buffers of m and n bytes for the bases and the flags
pub record Tells (info : Result Info Refusal) (read : Result Read Refusal) (m n : ℕ) : Type 0 where
  -- done: record is done with the same numbers where the buffers are not too long and have room
  pub done : (len : Chars) (blocks masks : ℕ) → info ≡ Ok (told_info len blocks masks) → m ≤ 2 ^ 28 → n ≤ 2 ^ 28 → up 2 len.0 + trailing ≤ m → up 1 len.0 + trailing ≤ n
      → read ≡ Ok (told_read len masks)
  -- refused: so is record, by the same refusal where the buffers are not too long
  pub refused : (r : Refusal) → info ≡ Err r → (len : Chars) (masks : ℕ) → read ≡ Ok (told_read len masks) → ⊥
  pub alike : (r : Refusal) → info ≡ Err r → m ≤ 2 ^ 28 → n ≤ 2 ^ 28 → read ≡ Err r
  -- where record is done, so is record_info, with the same numbers
  pub back : (len : Chars) (masks : ℕ) → read ≡ Ok (told_read len masks) → (blocks : ℕ) × (info ≡ Ok (told_info len blocks masks))

-- a test that decides alone
alone : (b : Bool) (r : Refusal) → first ((not b, BadForm) ∷ []) ≡ Err r → (b ≡ false) × (BadForm ≡ r)
alone true r e = let z : ◌≡◌ {A = ℕ} 0 1 = cc in absurd (omega arith)
alone false r e = (refl, cc)

never : (r : Refusal) → ◌≡◌ {A = Outcome} (Ok tt) (Err r) → ⊥
never r e = let z : ◌≡◌ {A = ℕ} 0 1 = cc in omega arith

module _ (file : List ℕ) (r : ℕ) where
  -- the numbers of a record
  abbrev numbers : Informed
  numbers = (size_at (is_big file) file r, (block_count (is_big file) file (r + 4), block_count (is_big file) file (masks_place (is_big file) file r)))

  abbrev good : Bool
  good = good_header file && is_record (is_big file) file r

  is_info : (x : Result Info Refusal) → info_says x ≡ info_answer file r → (len : Chars) (blocks masks : ℕ) → x ≡ Ok (told_info len blocks masks)
      → (info_outcome file r ≡ Ok tt) × (◌≡◌ {A = Informed} (len.0, (blocks, masks)) numbers)
  unfolding info_answer
  is_info x p len blocks masks e =
      let q : answer (Ok tt) (len.0, (blocks, masks)) no_info ≡ answer (info_outcome file r) numbers no_info = sym (ap info_says e) ∙ p in
      let o : info_outcome file r ≡ Ok tt = sym (answer-outcome (Ok tt) (info_outcome file r) (len.0, (blocks, masks)) numbers no_info no_info q) in
      (o, answer-values (len.0, (blocks, masks)) numbers no_info no_info (q ∙ ap (λ (t : Outcome). answer t numbers no_info) o))

  no-info : (x : Result Info Refusal) → info_says x ≡ info_answer file r → (f : Refusal) → x ≡ Err f → info_outcome file r ≡ Err f
  unfolding info_answer
  no-info x p f e = sym (answer-outcome (Err f) (info_outcome file r) no_info numbers no_info no_info (sym (ap info_says e) ∙ p))

  module _ (bases flags : List ℕ) where
    abbrev outcome : Outcome
    outcome = record_outcome file r bases flags

    is_read : (x : Result Read Refusal) → read_says x ≡ record_answer file r bases flags → (len : Chars) (masks : ℕ) → x ≡ Ok (told_read len masks)
        → (outcome ≡ Ok tt) × (◌≡◌ {A = ℕ × ℕ} (len.0, masks) (numbers.0, numbers.1.1))
    unfolding record_answer
    is_read x p len masks e =
        let v : ℕ × ℕ = (numbers.0, numbers.1.1) in
        let q : answer (Ok tt) (len.0, masks) (0, 0) ≡ answer outcome v (0, 0) = sym (ap read_says e) ∙ p in
        let o : outcome ≡ Ok tt = sym (answer-outcome (Ok tt) outcome (len.0, masks) v (0, 0) (0, 0) q) in
        (o, answer-values (len.0, masks) v (0, 0) (0, 0) (q ∙ ap (λ (t : Outcome). answer t v (0, 0)) o))

    -- the tests of record are that of record_info, and those of the buffers
    read_done : info_outcome file r ≡ Ok tt → length bases ≤ 2 ^ 28 → length flags ≤ 2 ^ 28 → up 2 numbers.0 + trailing ≤ length bases → up 1 numbers.0 + trailing ≤ length flags
        → outcome ≡ Ok tt
    unfolding info_outcome record_outcome
    read_done o a b c d =
        sym
        (first_at 5 (record_tests file r (length bases) (length flags))
        (le-ltb _ _ a, (le-ltb _ _ b, ((first_none (bad_record file r ∷ []) o).0, (le-ltb _ _ c, (le-ltb _ _ d, tt))))))

    read_refused : (f : Refusal) → info_outcome file r ≡ Err f → length bases ≤ 2 ^ 28 → length flags ≤ 2 ^ 28 → outcome ≡ Err f
    unfolding info_outcome record_outcome
    read_refused f o a b =
        let t = alone good f o in
        sym (first_at 2 (record_tests file r (length bases) (length flags)) (le-ltb _ _ a, (le-ltb _ _ b, ap not t.0))) ∙ ap Err t.1

    info_done : outcome ≡ Ok tt → info_outcome file r ≡ Ok tt
    unfolding info_outcome record_outcome
    info_done o = sym (first_at 1 (bad_record file r ∷ []) ((first_none (record_tests file r (length bases) (length flags)) o).1.1.0, tt))

    tells : (x : Result Info Refusal) (y : Result Read Refusal) → info_says x ≡ info_answer file r → read_says y ≡ record_answer file r bases flags → Tells x y (length bases) (length flags)
    unfolding info_answer record_answer
    tells x y p q =
        record {
          done =
              λ len blocks masks e a b c d.
              let i = is_info x p len blocks masks e in
              let n : len.0 ≡ numbers.0 = ap (λ (t : Informed). t.0) i.1 in
              let o = read_done i.0 a b (subst (λ (k : ℕ). up 2 k + trailing ≤ length bases) n c) (subst (λ (k : ℕ). up 1 k + trailing ≤ length flags) n d) in
              says-once read_told y (Ok (told_read len masks)) (q ∙ sym (answer_done outcome (len.0, masks) _ (0, 0) o (ap (λ (t : Informed). (t.0, t.1.1)) i.1)));
          refused = λ f e len masks h. never f (sym (info_done (is_read y q len masks h).0) ∙ no-info x p f e);
          alike = λ f e a b. says-once read_told y (Err f) (q ∙ sym (answer_refused outcome f _ (0, 0) (read_refused f (no-info x p f e) a b)));
          back =
              λ len masks h.
              let i = is_read y q len masks h in (
                numbers.1.0,
                says-once info_told x (Ok (told_info len numbers.1.0 masks))
                    (p ∙ sym (answer_done (info_outcome file r) (len.0, (numbers.1.0, masks)) numbers no_info (info_done i.0) (ap (λ (t : ℕ × ℕ). (t.0, (numbers.1.0, t.1))) i.1))),
              );
        }

pub info_tells : (κs : Lfts 1) (a : Dens κs record-info·kinds.ps) (x : (res_t record-info·kinds.r κs).Denot) (s : AtExit (ended_of 1 record-info·kinds.ps record-info·kinds.r) κs)
    (μs : Lfts 3) (b : Dens μs record·kinds.ps) (y : (res_t record·kinds.r μs).Denot) (t : AtExit (ended_of 3 record·kinds.ps record·kinds.r) μs)
    → record-info.Post κs a x s → record·reads.Post μs b y t → a.0.now ≡ b.0.now → a.1.0 ≡ b.1.0 → Tells x y (length b.1.1.0.now) (length b.1.1.1.0.now)
info_tells κs a x s μs b y t p q f o =
    tells b.0.now b.1.0 b.1.1.0.now b.1.1.1.0.now x y (p ∙ ap₂ info_answer f o) q.0
