-- Where no test holds, the header is written; else nothing is. Assumes nothing.
use Rattle.std.specs.Prelude.{Ok}
use Rattle.codes.specs.Refusals.{Outcome}
use mathlib.Core.Path.{◌≡◌, refl, sym, ◌∙◌}
use Prim.Native.Nat.{◌^◌, ◌≤◌, ◌<◌}
use lib.ListN.{length}
use borrow.Author.Tests.{ltb-false, leb-false}
use Rattle.codes.proofs.OutcomeLaws.{answer_done, answer_passed, gives_done, gives_refused}
use Rattle.codes.proofs.TestLaws.{first_none}
use Rattle.twobit.specs.Files.{header_size, offset_size, index_end}
use Rattle.twowrite.specs.Writing.{writing, start_tests, start_outcome, start_answer, start_after}
use Rattle.twowrite.specs.declared.answers.Writing.{Writing}
use Rattle.twowrite.proofs.writing.start.Goals.{In_ok-start_outcome, Start}
use Rattle.twowrite.proofs.writing.start.Goals as goal

abbrev outcome : Start → Outcome
outcome s = start_outcome 0 offset_size s.args.count s.args.names s.args.out.now

-- there is room for the header and the index
module _ (c : In_ok-start_outcome) where
  done : outcome (goal.at.In_ok-start_outcome c).Start ≡ Ok tt
  unfolding start_outcome
  done = sym c.in_ok-start_outcome.ensures

  room : (c.args.count < 2 ^ 32) × (index_end offset_size c.args.count c.args.names ≤ length c.args.out.now)
  unfolding start_outcome
  room =
      let a = c.args in
      let h = first_none (start_tests offset_size a.count a.names (length a.out.now)) done in
      (leb-false (2 ^ 32) a.count h.0, ltb-false (length a.out.now) (index_end offset_size a.count a.names) h.1.0)

pub returns-in_err-start_outcome : goal.returns-in_err-start_outcome
unfolding start_answer start_after start_outcome
returns-in_err-start_outcome c =
    let e = c.in_err-start_outcome.ensures in
    record { answer = answer_passed _ _ _ _ _ _ e c.from_residual.ensures.1; bytes = gives_refused _ _ _ _ (sym e) }

pub returns : goal.returns
unfolding start_answer start_after start_outcome
returns c =
    let o = outcome (goal.at.returns c).Start in
    let a = c.args in
    let stop = index_end offset_size a.count a.names in
    let begun : Writing = writing header_size stop stop a.count in
    record {
      answer = answer_done o begun begun (writing 0 0 0 0) (done (goal.at.returns c).In_ok-start_outcome) refl;
      bytes = c.write_header.ensures
          ∙ gives_done o _ _ (done (goal.at.returns c).In_ok-start_outcome);
    }
