-- The flip of the view's word, where it is not refused. Assumes nothing.
use mathlib.Core.Path.{sym, ap₂, ◌∙◌, subst}
use Prim.Native.Nat.{ℕ, ◌*◌, ◌≤◌}
use lib.ListN.{length}
use Rattle.codes.specs.Codes.{complement}
use Rattle.codes.specs.Words.{flip}
use Rattle.codes.proofs.CharLaws.{flip-chars}
use Rattle.codes.proofs.OutcomeLaws.{answer_done, answer_passed}
use Rattle.fields.specs.Fields.{flipped_as_u64}
use Rattle.fields.proofs.LoadLaws.{Wordy, word-open}
use Rattle.fields.proofs.inner.words.flipped_as_u64.Given.{Over}
use Rattle.fields.proofs.inner.words.flipped_as_u64.Goals.{In_ok-word_outcome}
use Rattle.fields.proofs.inner.words.flipped_as_u64.Goals as goal

room : (g : Over) (c : In_ok-word_outcome g) → let a = c.args in Wordy g.W.Width.BITS (length a.bytes.now) a.offset.0 a.len.0 1 64
room g c = word-open _ _ _ _ 1 64 (sym c.in_ok-word_outcome.ensures)

pub view_word-x-requires : goal.view_word-x-requires
view_word-x-requires g c = record { len_value = (room g c).view; len_bound = (room g c).fits }

pub flip_low-requires : goal.flip_low-requires
flip_low-requires g c =
    let e = sym c.count.ensures in (
      subst (λ (k : ℕ). 1 ≤ k) e (room g (goal.at.flip_low-requires g c).In_ok-word_outcome).low,
      subst (λ (k : ℕ). g.W.Width.BITS * k ≤ 64) e (room g (goal.at.flip_low-requires g c).In_ok-word_outcome).fits,
    )

pub returns-in_err-word_outcome : goal.returns-in_err-word_outcome
unfolding flipped_as_u64
returns-in_err-word_outcome g c = answer_passed _ _ _ _ _ _ c.in_err-word_outcome.ensures c.from_residual.ensures.1

pub returns : goal.returns
unfolding flipped_as_u64
returns g c =
    let a = c.args in
    answer_done _ _ _ 0 (sym c.in_ok-word_outcome.ensures)
    (c.flip_low.ensures
    ∙ ap₂ (flip g.W.Width.BITS (complement g.W.Width.BITS)) c.count.ensures c.view_word-x.ensures
    ∙ flip-chars g.W.Width.BITS (complement g.W.Width.BITS) a.bytes.now a.offset.0 a.len.0)
