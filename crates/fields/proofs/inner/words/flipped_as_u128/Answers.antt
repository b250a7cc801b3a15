-- The flip of the view's word in two halves, where it is not refused. Assumes nothing.
use mathlib.Core.Path.{sym, ap₂, ◌∙◌, subst}
use Prim.Native.Nat.{ℕ, ◌*◌, ◌≤◌}
use lib.ListN.{length}
use Rattle.codes.specs.Codes.{complement}
use Rattle.codes.specs.Words.{flip}
use Rattle.codes.proofs.CharLaws.{flip-chars}
use Rattle.codes.proofs.OutcomeLaws.{answer_done, answer_passed}
use Rattle.codes.proofs.Pairs.{halves_are}
use Rattle.fields.specs.Fields.{flipped_as_u128}
use Rattle.fields.proofs.LoadLaws.{Wordy, word-open}
use borrow.Author.Rules.{rules}
use Rattle.fields.proofs.inner.words.flipped_as_u128.Given.{Over}
use Rattle.fields.proofs.inner.words.flipped_as_u128.Goals.{In_ok-word_outcome}
use Rattle.fields.proofs.inner.words.flipped_as_u128.Goals as goal

room : (g : Over) (c : In_ok-word_outcome g) → let a = c.args in Wordy g.W.Width.BITS (length a.bytes.now) a.offset.0 a.len.0 1 128
room g c = word-open _ _ _ _ 1 128 (sym c.in_ok-word_outcome.ensures)

pub view_pair-x-requires : goal.view_pair-x-requires
view_pair-x-requires g c = record { len_value = (room g c).view; len_bound = (room g c).fits }

pub flip_low_pair-requires : goal.flip_low_pair-requires
flip_low_pair-requires g c =
    let e = sym c.count.ensures in (
      subst (λ (k : ℕ). 1 ≤ k) e (room g (goal.at.flip_low_pair-requires g c).In_ok-word_outcome).low,
      subst (λ (k : ℕ). g.W.Width.BITS * k ≤ 128) e (room g (goal.at.flip_low_pair-requires g c).In_ok-word_outcome).fits,
    )

pub returns-in_err-word_outcome : goal.returns-in_err-word_outcome
unfolding flipped_as_u128
returns-in_err-word_outcome g c = answer_passed _ _ _ _ _ _ c.in_err-word_outcome.ensures c.from_residual.ensures.1

pub returns : goal.returns
unfolding flipped_as_u128
returns g c =
    let a = c.args in
    let r = c.flip_low_pair.result in
    answer_done _ _ _ (0, 0) (sym c.in_ok-word_outcome.ensures)
    (halves_are _ r.low r.high (search rules)
    (c.flip_low_pair.ensures
    ∙ ap₂ (flip g.W.Width.BITS (complement g.W.Width.BITS)) c.count.ensures c.view_pair-x.ensures
    ∙ flip-chars g.W.Width.BITS (complement g.W.Width.BITS) a.bytes.now a.offset.0 a.len.0))
