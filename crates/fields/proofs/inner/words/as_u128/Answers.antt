-- The view's word in two halves, where it is not refused. Assumes nothing.
use mathlib.Core.Path.{sym}
use lib.ListN.{length}
use Rattle.codes.proofs.OutcomeLaws.{answer_done, answer_passed}
use Rattle.codes.proofs.Pairs.{halves_are}
use Rattle.fields.specs.Fields.{as_u128}
use Rattle.fields.proofs.LoadLaws.{Wordy, word-open}
use borrow.Author.Rules.{rules}
use Rattle.fields.proofs.inner.words.as_u128.Given.{Over}
use Rattle.fields.proofs.inner.words.as_u128.Goals.{In_ok-word_outcome}
use Rattle.fields.proofs.inner.words.as_u128.Goals as goal

room : (g : Over) (c : In_ok-word_outcome g) → let a = c.args in Wordy g.W.Width.BITS (length a.bytes.now) a.offset.0 a.len.0 0 128
room g c = word-open _ _ _ _ 0 128 (sym c.in_ok-word_outcome.ensures)

pub view_pair-requires : goal.view_pair-requires
view_pair-requires g c = record { len_value = (room g c).view; len_bound = (room g c).fits }

pub returns-in_err-word_outcome : goal.returns-in_err-word_outcome
unfolding as_u128
returns-in_err-word_outcome g c = answer_passed _ _ _ _ _ _ c.in_err-word_outcome.ensures c.from_residual.ensures.1

pub returns : goal.returns
unfolding as_u128
returns g c =
    let r = c.view_pair.result in
    answer_done _ _ _ (0, 0) (sym c.in_ok-word_outcome.ensures) (halves_are _ r.low r.high (search rules) c.view_pair.ensures)
