-- Where no test holds, the entry and the record are written; else nothing is. Assumes nothing.
use Rattle.std.specs.Prelude.{Ok, Err}
use mathlib.Core.Bool.{false}
use mathlib.Core.List.{List}
use mathlib.Core.Path.{◌≡◌, refl, ap, ap₂, ◌∙◌}
use Prim.Native.Nat.{ℕ, ◌+◌, ◌-◌, ◌*◌, ◌^◌, ◌<◌}
use native.Mathlib.Omega.{arith}
use lib.ListN.{length}
use lib.Seq.{sets}
use Rattle.codes.specs.Codes.{up, chars}
use Rattle.codes.specs.Refusals.{Outcome}
use Rattle.codes.proofs.OutcomeLaws.{answer_done, answer_refused, gives_done, gives_refused}
use Rattle.fields.specs.Runs.{runs}
use Rattle.twobit.specs.Files.{offset_size, entry_of, entry_size, record_of, record_size}
use Rattle.twowrite.specs.Writing.{writing, add_outcome, add_answer, add_after}
use Rattle.twowrite.proofs.RunLaws.{record_size-is}
use Rattle.twowrite.proofs.StepLaws.{sized_refused, sized_is, Addable, add_done}
use Rattle.twowrite.proofs.writing.add.Goals.{After-count-in-Ok, After-count-in-Ok-2, In-Ok, In-Err, Start}
use Rattle.twowrite.proofs.writing.add.Goals as goal

abbrev outcome : Start → Outcome
outcome s =
    let a = s.args in
    add_outcome offset_size a.state a.name.now a.bases.now a.base_offset.0 a.base_len.0 a.flags.now a.flag_offset.0 a.flag_len.0 a.out.now

abbrev count : Start → ℕ
count s = length (runs (chars 1 s.args.flags.now s.args.flag_offset.0 s.args.flag_len.0))

refusal : (c : In-Err) → outcome (goal.at.In-Err c).Start ≡ Err c.in-Err.refusal
unfolding add_outcome
refusal c =
    let r = c.add_ready in
    sized_refused r.result c.in-Err.refusal _ (count (goal.at.In-Err c).Start) c.in-Err.is r.ensures

module _ (c : In-Ok) where
  ready : (outcome (goal.at.In-Ok c).Start ≡ Ok tt) × (c.in-Ok.count ≡ count (goal.at.In-Ok c).Start)
  unfolding add_outcome
  ready = sized_is c.add_ready.result c.in-Ok.count _ (count (goal.at.In-Ok c).Start) c.in-Ok.is c.add_ready.ensures

  right : let a = c.args in
      Addable offset_size a.state (length a.name.now) (length a.bases.now) a.base_offset.0 a.base_len.0 a.flags.now a.flag_offset.0 a.flag_len.0
      (length a.out.now)
  unfolding add_outcome
  right = add_done _ _ _ _ _ _ _ _ _ _ ready.0

  -- the record's end is a machine word
  bound : let a = c.args in a.state.place + record_size (chars 1 a.flags.now a.flag_offset.0 a.flag_len.0) < 2 ^ 64
  bound = omega (arith, right.fits)

  -- and the record's size is that of its parts
  size : (n : ℕ) → n ≡ up 2 c.args.flag_len.0
      → (let a = c.args in 16 + 8 * c.in-Ok.count + n ≡ record_size (chars 1 a.flags.now a.flag_offset.0 a.flag_len.0))
  size n e = record_size-is c.args.flags.now c.args.flag_offset.0 c.args.flag_len.0 ready.1 e

-- the entry is written
module _ (c : After-count-in-Ok) where
  abbrev entry : List ℕ
  entry = c.write_entry.new.out

  wrote : let a = c.args in entry ≡ sets a.out.now a.state.entry (entry_of false offset_size a.name.now a.state.place)
  wrote = c.write_entry.ensures

  -- the numbers of the views
  base_at_lem : c.count.result ≡ c.args.base_offset.0
  base_at_lem = c.count.ensures

  flag_at_lem : c.count-in-Ok.result ≡ c.args.flag_offset.0
  flag_at_lem = c.count-in-Ok.ensures

  base_long : c.count-n.result ≡ c.args.base_len.0
  base_long = c.count-n.ensures

  flag-long : c.count-n.result ≡ c.args.flag_len.0
  flag-long = base_long ∙ (right (goal.at.After-count-in-Ok c).In-Ok).same

pub overflow_mul-result : goal.overflow_mul-result
overflow_mul-result c = omega (arith, size (goal.at.overflow_mul-result c).In-Ok _ refl, bound (goal.at.overflow_mul-result c).In-Ok)

pub overflow_add-result-in-Ok-3 : goal.overflow_add-result-in-Ok-3
overflow_add-result-in-Ok-3 c = omega (arith, size (goal.at.overflow_add-result-in-Ok-3 c).In-Ok _ refl, bound (goal.at.overflow_add-result-in-Ok-3 c).In-Ok)

-- the size of the record that is written
module _ (c : After-count-in-Ok-2) where
  abbrev packed : ℕ
  packed = c.count-in-Ok-2.result

  sized : let a = c.args in 16 + 8 * c.in-Ok.count + packed ≡ record_size (chars 1 a.flags.now a.flag_offset.0 a.flag_len.0)
  sized = size (goal.at.After-count-in-Ok-2 c).In-Ok packed (c.count-in-Ok-2.ensures ∙ c.bytes_as.ensures ∙ ap (up 2) (right (goal.at.After-count-in-Ok-2 c).In-Ok).same)

pub overflow_add-result-in-Ok-4 : goal.overflow_add-result-in-Ok-4
overflow_add-result-in-Ok-4 c = omega (arith, sized c, bound (goal.at.overflow_add-result-in-Ok-4 c).In-Ok)

pub overflow_add-result-in-Ok-5 : goal.overflow_add-result-in-Ok-5
overflow_add-result-in-Ok-5 c = omega (arith, sized (goal.at.overflow_add-result-in-Ok-5 c).After-count-in-Ok-2, bound (goal.at.overflow_add-result-in-Ok-5 c).In-Ok)

pub returns-in-Err : goal.returns-in-Err
unfolding add_answer add_after add_outcome
returns-in-Err c =
    let r = c.in-Err.refusal in
    let e = refusal c in record {
      answer = answer_refused (outcome (goal.at.returns-in-Err c).Start) r _ c.args.state e;
      bytes = gives_refused (outcome (goal.at.returns-in-Err c).Start) r _ c.args.out.now e;
    }

pub returns-in-Ok : goal.returns-in-Ok
unfolding add_answer add_after add_outcome
returns-in-Ok c =
    let a = c.args in
    let at : a.state.entry + (length a.name.now + 4 + 1) ≡ a.state.entry + entry_size offset_size (length a.name.now) = omega arith in
    let state =
    ap₂ (λ (x y : ℕ). writing x a.state.stop y (a.state.left - 1)) at (ap (λ (n : ℕ). a.state.place + n) (sized (goal.at.returns-in-Ok c).After-count-in-Ok-2)) in
    let bases = ap₂ (λ (x y : ℕ). chars 2 a.bases.now x y) (base_at_lem (goal.at.returns-in-Ok c).After-count-in-Ok) (base_long (goal.at.returns-in-Ok c).After-count-in-Ok) in
    let flags = ap₂ (λ (x y : ℕ). chars 1 a.flags.now x y) (flag_at_lem (goal.at.returns-in-Ok c).After-count-in-Ok) (flag-long (goal.at.returns-in-Ok c).After-count-in-Ok) in
    let bytes =
    c.write_record.ensures
    ∙ ap₂ (λ (x y : List ℕ). sets (entry (goal.at.returns-in-Ok c).After-count-in-Ok) a.state.place (record_of false x y)) bases flags
    ∙ ap
    (λ (l : List ℕ). sets l a.state.place (record_of false (chars 2 a.bases.now a.base_offset.0 a.base_len.0) (chars 1 a.flags.now a.flag_offset.0 a.flag_len.0)))
    (wrote (goal.at.returns-in-Ok c).After-count-in-Ok) in
    record {
      answer = answer_done (outcome (goal.at.returns-in-Ok c).Start) _ _ a.state (ready (goal.at.returns-in-Ok c).In-Ok).0 state;
      bytes = bytes
          ∙ gives_done (outcome (goal.at.returns-in-Ok c).Start) _ a.out.now (ready (goal.at.returns-in-Ok c).In-Ok).0;
    }
