-- Writing and reading by calls: of whatever satisfies the contracts of start, of add once for each sequence, and of finish, each given the state and
-- the output that the one before left. With sequences that fit, numbers that are right and room enough all are done, the output's front is just the
-- file of those sequences, and the calls that read answer them.
-- Assumes nothing.
use Rattle.std.specs.Prelude.{Result, Ok, Err}
use borrow.Fn.Kinds.{Dens, ended_of}
use contract.Lifetimes.{Lfts}
use denote.Triple.Clauses.{AtExit}
use mathlib.Core.Bool.{false}
use mathlib.Core.List.{List, [], ◌∷◌, ◌++◌, map}
use mathlib.Core.Path.{◌≡◌, refl, sym, ap, ◌∙◌}
use Prim.Native.Nat.{ℕ, ◌^◌, ◌≤◌, ◌<◌}
use native.Mathlib.Omega.{arith}
use lib.ListN.{length, drop}
use Rattle.codes.specs.Refusals.{Answer, answer, Outcome}
use Rattle.codes.specs.declared.refusals.Refusal.{Refusal}
use Rattle.codes.proofs.AnswerLaws.{told}
use Rattle.codes.proofs.RefusalLaws.{outcome_at, outcome_at_number, says-once}
use Rattle.twobit.specs.Files.{offset_size, names_size, index_end, file_of}
use Rattle.twobit.proofs.ReadBack.{Near}
use Rattle.twobit.proofs.ReadCalls.{AllRead}
use Rattle.twowrite.specs.Answers.{started_says, stepped_says}
use Rattle.twowrite.specs.Writing.{start_answer, start_after, add_answer, add_after, finish_answer}
use Rattle.twowrite.specs.declared.answers.Writing.{Writing}
use Rattle.twowrite.specs.declared.answers.Stepped.{Stepped}
use Rattle.twowrite.proofs.Exchanged.{Named, Exchanged, exchanged}
use Rattle.twowrite.proofs.Writable.{AllGood, Writable, writable}
use Rattle.twowrite.proofs.WrittenFile.{Given, sequence_of, answer_of, after_of, AllAdded}
use Rattle.twowrite.proofs.writing.start.Kinds as start·kinds
use Rattle.twowrite.proofs.writing.start.Reads as start
use Rattle.twowrite.proofs.writing.add.Kinds as add·kinds
use Rattle.twowrite.proofs.writing.add.Reads as add
use Rattle.twowrite.proofs.writing.finish.Kinds as finish·kinds
use Rattle.twowrite.proofs.writing.finish.Reads as finish

-- ---- the calls

-- the state that an answer of start gives: zeros beside a refusal
abbrev pub state_of : Result Writing Refusal → Writing
state_of x = (started_says x).values

-- a call of start for n sequences, whose names have m bytes, on an output: its answer, and the output that it leaves
pub record Starts (n m : ℕ) (out : List ℕ) (x : Result Writing Refusal) (after : List ℕ) : Type 0 where
  pub κs : Lfts 1
  pub a : Dens κs start·kinds.ps
  pub e : AtExit (ended_of 1 start·kinds.ps start·kinds.r) κs
  pub permitted : start.Post κs a x e
  pub count : a.0 ≡ n
  pub names : a.1.0 ≡ m
  pub lent : a.1.1.0.now ≡ out
  pub left : e.1.1.0.now ≡ after

-- a call of add in a state
pub record Adds (s : Writing) (g : Given) (out : List ℕ) (x : Stepped) (after : List ℕ) : Type 0 where
  pub κs : Lfts 4
  pub a : Dens κs add·kinds.ps
  pub e : AtExit (ended_of 4 add·kinds.ps add·kinds.r) κs
  pub permitted : add.Post κs a x e
  pub state : a.0 ≡ s
  pub name : a.1.0.now ≡ g.name
  pub bases : a.1.1.0.now ≡ g.bases
  pub base_offset : a.1.1.1.0.0 ≡ g.base_offset
  pub base_length : a.1.1.1.1.0.0 ≡ g.base_length
  pub flags : a.1.1.1.1.1.0.now ≡ g.flags
  pub flag_offset : a.1.1.1.1.1.1.0.0 ≡ g.flag_offset
  pub flag_length : a.1.1.1.1.1.1.1.0.0 ≡ g.flag_length
  pub lent : a.1.1.1.1.1.1.1.1.0.now ≡ out
  pub left : e.1.1.1.1.1.1.1.1.0.now ≡ after

-- one for each sequence, each in the state and on the output that the one before gave
abbrev pub AddsAll : Writing → List ℕ → List Given → Writing → List ℕ → Type 0
AddsAll s out [] t after = (t ≡ s) × (after ≡ out)
AddsAll s out (g ∷ gs) t after = (x : Stepped) × (mid : List ℕ) × Adds s g out x mid × AddsAll x.state mid gs t after

-- all of them done
abbrev pub AllDone : (s : Writing) (out : List ℕ) (gs : List Given) (t : Writing) (after : List ℕ) → AddsAll s out gs t after → Type 0
AllDone s out [] t after c = Unit {0}
AllDone s out (g ∷ gs) t after c = (c.0.outcome ≡ Ok tt) × AllDone c.0.state c.1 gs t after c.3

-- a call of finish
pub record Finishes (t : Writing) (y : Result ℕ Refusal) : Type 0 where
  pub κs : Lfts 0
  pub a : Dens κs finish·kinds.ps
  pub e : AtExit (ended_of 0 finish·kinds.ps finish·kinds.r) κs
  pub permitted : finish.Post κs a y e
  pub state : a.0 ≡ t

-- ---- what they answer

started : (n m : ℕ) (out : List ℕ) (x : Result Writing Refusal) (after : List ℕ) → Starts n m out x after
    → (started_says x ≡ start_answer 0 offset_size n m out) × (after ≡ start_after 0 offset_size n m out)
started n m out x after c = (
  c.permitted.0 ∙ (λ i. start_answer 0 offset_size (c.count i) (c.names i) (c.lent i)),
  sym c.left ∙ c.permitted.1 ∙ (λ i. start_after 0 offset_size (c.count i) (c.names i) (c.lent i)),
)

module _ (s : Writing) (g : Given) (out : List ℕ) where
  added : (x : Stepped) (after : List ℕ) → Adds s g out x after → (stepped_says x ≡ answer_of offset_size s g out) × (after ≡ after_of offset_size s g out)
  added x after c = (
    c.permitted.0
        ∙ (λ i. add_answer offset_size (c.state i) (c.name i) (c.bases i) (c.base_offset i) (c.base_length i) (c.flags i) (c.flag_offset i) (c.flag_length i) (c.lent i)),
    sym c.left ∙ c.permitted.1
        ∙ (λ i. add_after offset_size (c.state i) (c.name i) (c.bases i) (c.base_offset i) (c.base_length i) (c.flags i) (c.flag_offset i) (c.flag_length i) (c.lent i)),
  )

-- an answer that says 0 is done
begins : (x : Result Writing Refusal) → (started_says x).no ≡ 0 → x ≡ Ok (state_of x)
begins (Ok s) z = refl
begins (Err r) z =
    let e : ◌≡◌ {A = Outcome} (Err r) (Ok tt) = sym (outcome_at_number (Err r)) ∙ ap outcome_at z ∙ outcome_at_number (Ok tt) in
    let n : ◌≡◌ {A = ℕ} 0 1 = cc in
    absurd (omega arith)

done_says : (x : Stepped) (a : Answer Writing) → stepped_says x ≡ a → a.no ≡ 0 → x.outcome ≡ Ok tt
done_says x a e z = sym (outcome_at_number x.outcome) ∙ ap outcome_at (ap (λ (b : Answer Writing). b.no) e ∙ z) ∙ outcome_at_number (Ok tt)

-- the calls of add go as the definitions do, where those are all done
together : (gs : List Given) (s s' : Writing) (out out' : List ℕ) (t t' : Writing) (after after' : List ℕ) → s' ≡ s → out' ≡ out → AllAdded offset_size s out gs t after
    → (c : AddsAll s' out' gs t' after') → AllDone s' out' gs t' after' c × ((t' ≡ t) × (after' ≡ after))
together [] s s' out out' t t' after after' p q (d, h) (u, v) = (tt, (u ∙ p ∙ sym d, v ∙ q ∙ sym h))
together (g ∷ gs) s s' out out' t t' after after' p q (d, h) (x, mid, call, cs) =
    let e = added s' g out' x mid call in
    let says : stepped_says x ≡ answer_of offset_size s g out = e.0 ∙ (λ i. answer_of offset_size (p i) g (q i)) in
    let leaves : mid ≡ after_of offset_size s g out = e.1 ∙ (λ i. after_of offset_size (p i) g (q i)) in
    let r =
    together gs (answer_of offset_size s g out).values x.state (after_of offset_size s g out) mid t t' after after' (ap (λ (b : Answer Writing). b.values) says) leaves h cs in
    ((done_says x (answer_of offset_size s g out) says d, r.0), r.1)

-- ---- the theorem

pub record WrittenRead (gs : List Given) (out : List ℕ) (x : Result Writing Refusal) (mid : List ℕ) (t : Writing) (after : List ℕ) (calls : AddsAll (state_of x) mid gs t after) (y : Result ℕ Refusal) : Type 0 where
  pub begun : x ≡ Ok (state_of x)
  pub all : AllDone (state_of x) mid gs t after calls
  pub ended : y ≡ Ok (length (file_of false 0 offset_size (map sequence_of gs)))
  pub bytes : after ≡ file_of false 0 offset_size (map sequence_of gs) ++ drop (length (file_of false 0 offset_size (map sequence_of gs))) out
  pub read : AllRead (file_of false 0 offset_size (map sequence_of gs)) (map sequence_of gs)

pub written_read : (gs : List Given) (out : List ℕ) → length gs < 2 ^ 32 → AllGood gs → Named gs
    → Near offset_size (index_end offset_size (length gs) (names_size (map sequence_of gs))) (map sequence_of gs) → length (file_of false 0 offset_size (map sequence_of gs)) ≤ length out
    → (x : Result Writing Refusal) (mid : List ℕ) (t : Writing) (after : List ℕ) (y : Result ℕ Refusal) → Starts (length gs) (names_size (map sequence_of gs)) out x mid
    → (calls : AddsAll (state_of x) mid gs t after) → Finishes t y → WrittenRead gs out x mid t after calls y
written_read gs out few good names near room x mid t after y start-call calls finish-call =
    record {
      begun = begins x (ap (λ (b : Answer Writing). b.no) s.0 ∙ w.started);
      all = c.0;
      ended = says-once told y (Ok (length file)) (finish-call.permitted ∙ ap finish_answer (finish-call.state ∙ c.1.0) ∙ whole);
      bytes = c.1.1 ∙ z.written.bytes;
      read = z.read;
    }
  where
    n : ℕ
    n = length gs

    m : ℕ
    m = names_size (map sequence_of gs)

    file : List ℕ
    file = file_of false 0 offset_size (map sequence_of gs)

    w : Writable 0 offset_size n m out gs
    w = writable 0 offset_size gs out few good near room

    z : Exchanged n m out (map sequence_of gs) w.state w.after
    z = exchanged n m out gs w.state w.after names w.started w.added w.finished

    s : (started_says x ≡ start_answer 0 offset_size n m out) × (mid ≡ start_after 0 offset_size n m out)
    s = started n m out x mid start-call

    c : AllDone (state_of x) mid gs t after calls × ((t ≡ w.state) × (after ≡ w.after))
    c =
        together gs (start_answer 0 offset_size n m out).values (state_of x) (start_after 0 offset_size n m out) mid w.state t w.after after
        (ap (λ (b : Answer Writing). b.values) s.0) s.1 w.added calls

    whole : finish_answer w.state ≡ answer (Ok tt) (length file) 0
    whole = λ i. record { no = w.finished i; values = z.written.size i }
