-- Each letter has its code by computation, and any other byte none. Assumes nothing.
use mathlib.Core.Logic.{⊎_elim, inl, inr}
use Rattle.codes.specs.Codes.{strict}
use Rattle.codes.proofs.CodeLaws.{strict-out}
use Rattle.codes.proofs.letters.pack_char.Goals as goal

pub returns-in-65 : goal.returns-in-65
unfolding strict
returns-in-65 c = ⊎_elim (λ e. rw e) (λ e. rw e) c.in-65.is

pub returns-in-67 : goal.returns-in-67
unfolding strict
returns-in-67 c = ⊎_elim (λ e. rw e) (λ e. rw e) c.in-67.is

pub returns-in-84 : goal.returns-in-84
unfolding strict
returns-in-84 c = ⊎_elim (λ e. rw e) (λ e. rw e) c.in-84.is

pub returns-in-71 : goal.returns-in-71
unfolding strict
returns-in-71 c = ⊎_elim (λ e. rw e) (λ e. rw e) c.in-71.is

pub returns-in-85 : goal.returns-in-85
unfolding strict
returns-in-85 c = ⊎_elim (λ e. rw e) (λ e. rw e) c.in-85.is

pub returns-in_default : goal.returns-in_default
returns-in_default c =
    let z = c.in_default.in_default-own.rest.0.0.0.0.1 in
    let a = c.in_default.in_default-own.rest.0.0.0.1 in
    let b = c.in_default.in_default-own.rest.0.0.1 in
    let d = c.in_default.in_default-own.rest.0.1 in
    let u = c.in_default.in_default-own.rest.1 in
    simp
    (strict-out c.args.byte
    (λ e. z (inl e), (λ e. a (inl e), (λ e. b (inl e), (λ e. d (inl e), tt))))
    (λ e. z (inr e), (λ e. a (inr e), (λ e. b (inr e), (λ e. d (inr e), tt))))
    (λ e. u (inl e), (λ e. u (inr e), tt)))
