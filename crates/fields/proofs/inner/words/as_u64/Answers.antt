-- The view's word, where it is not refused. Assumes nothing.
use mathlib.Core.Path.{sym}
use lib.ListN.{length}
use Rattle.codes.proofs.OutcomeLaws.{answer_done, answer_passed}
use Rattle.fields.specs.Fields.{as_u64}
use Rattle.fields.proofs.LoadLaws.{Wordy, word-open}
use Rattle.fields.proofs.inner.words.as_u64.Given.{Over}
use Rattle.fields.proofs.inner.words.as_u64.Goals.{In_ok-word_outcome}
use Rattle.fields.proofs.inner.words.as_u64.Goals as goal

room : (g : Over) (c : In_ok-word_outcome g) → let a = c.args in Wordy g.W.Width.BITS (length a.bytes.now) a.offset.0 a.len.0 0 64
room g c = word-open _ _ _ _ 0 64 (sym c.in_ok-word_outcome.ensures)

pub view_word-requires : goal.view_word-requires
view_word-requires g c = record { len_value = (room g c).view; len_bound = (room g c).fits }

pub returns-in_err-word_outcome : goal.returns-in_err-word_outcome
unfolding as_u64
returns-in_err-word_outcome g c = answer_passed _ _ _ _ _ _ c.in_err-word_outcome.ensures c.from_residual.ensures.1

pub returns : goal.returns
unfolding as_u64
returns g c = answer_done _ _ _ 0 (sym c.in_ok-word_outcome.ensures) c.view_word.ensures
