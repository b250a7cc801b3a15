-- Each letter is clear by computation, and any other byte is not. Assumes nothing.
use mathlib.Core.Logic.{◌⊎◌, ⊎_elim, inl, inr}
use Rattle.codes.specs.Codes.{strict, flag}
use Rattle.codes.proofs.CodeLaws.{strict-out}
use Rattle.codes.proofs.letters.char_is_ambiguous.Goals as goal

pub returns-in-65 : goal.returns-in-65
unfolding strict flag
returns-in-65 c = ⊎_elim (λ e. rw e) (⊎_elim (λ e. rw e) (⊎_elim (λ e. rw e) (⊎_elim (λ e. rw e) (⊎_elim (λ e. rw e) (⊎_elim (λ e. rw e) (⊎_elim (λ e. rw e) (λ e. rw e))))))) c.in-65.is

-- past the four capitals
small : {A B C D E : Type 0} → E → A ⊎ (B ⊎ (C ⊎ (D ⊎ E)))
small e = inr (inr (inr (inr e)))

pub returns-in-85 : goal.returns-in-85
unfolding strict flag
returns-in-85 c = ⊎_elim (λ e. rw e) (λ e. rw e) c.in-85.is

pub returns-in_default : goal.returns-in_default
unfolding flag
returns-in_default c =
    let n = c.in_default.in_default-own.rest.0.1 in
    let u = c.in_default.in_default-own.rest.1 in
    simp
    (strict-out c.args.byte
    (λ e. n (inl e), (λ e. n (inr (inl e)), (λ e. n (inr (inr (inr (inl e)))), (λ e. n (inr (inr (inl e))), tt))))
    (λ e. n (small (inl e)), (λ e. n (small (inr (inl e))), (λ e. n (small (inr (inr (inr e)))), (λ e. n (small (inr (inr (inl e)))), tt))))
    (λ e. u (inl e), (λ e. u (inr e), tt)))
