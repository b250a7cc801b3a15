-- Where no test holds, the form is written; else nothing is. Assumes nothing.
use Rattle.std.specs.Prelude.{Ok}
use mathlib.Core.List.{List, ◌++◌}
use mathlib.Core.Path.{◌≡◌, sym, ap, ap₂, ◌∙◌, subst}
use Prim.Native.Nat.{ℕ}
use lib.ListN.{length, drop}
use Rattle.codes.specs.Codes.{chars}
use Rattle.codes.specs.Refusals.{first, view_tests, Outcome}
use Rattle.codes.proofs.OutcomeLaws.{answer_done, answer_passed, gives_done, gives_refused}
use Rattle.forms.specs.Forms.{write_outcome, write_answer, write_after, form_size, stored}
use Rattle.forms.proofs.OutcomeLaws.{Writable, write_done}
use Rattle.forms.proofs.forms.write.Goals.{After-write_form, In_ok-write_outcome, Start}
use Rattle.forms.proofs.forms.write.Goals as goal

abbrev outcome : Start → Outcome
outcome s = write_outcome s.args.bases.now s.args.base_offset.0 s.args.base_len.0 s.args.flags.now s.args.flag_offset.0 s.args.flag_len.0 s.args.out.now

abbrev wrote : Start → ℕ → ℕ → ℕ → List ℕ
wrote s ao bo bl = stored (chars 2 s.args.bases.now ao s.args.base_len.0) (chars 1 s.args.flags.now bo bl) ++ drop (form_size s.args.base_len.0) s.args.out.now

module _ (c : In_ok-write_outcome) where
  done : outcome (goal.at.In_ok-write_outcome c).Start ≡ Ok tt
  unfolding write_outcome
  done = sym c.in_ok-write_outcome.ensures

  right : let a = c.args in Writable (length a.bases.now) a.base_offset.0 a.base_len.0 (length a.flags.now) a.flag_offset.0 a.flag_len.0 (length a.out.now)
  unfolding write_outcome
  right = write_done _ _ _ _ _ _ _ done

pub write_form-requires : goal.write_form-requires
write_form-requires c =
    let a = c.args in
    let h = right (goal.at.write_form-requires c).In_ok-write_outcome in
    let bases = subst (λ (x : ℕ). first (view_tests 2 (length a.bases.now) x a.base_len.0) ≡ Ok tt) (sym c.count-a.ensures) h.base_view in
    let flags = subst (λ (x : ℕ). first (view_tests 1 (length a.flags.now) x a.base_len.0) ≡ Ok tt) (sym c.count-b.ensures) h.flag-view in
    record { len_value = bases; len_value_2 = flags; len_bound = (h.few, h.fits) }

pub form_size-requires : goal.form_size-requires
form_size-requires c = (right (goal.at.form_size-requires c).In_ok-write_outcome).few

pub returns-in_err-write_outcome : goal.returns-in_err-write_outcome
unfolding write_answer write_after write_outcome
returns-in_err-write_outcome c =
    let o = outcome (goal.at.returns-in_err-write_outcome c).Start in
    let e = c.in_err-write_outcome.ensures in
    record { answer = answer_passed _ _ _ _ _ _ e c.from_residual.ensures.1; bytes = gives_refused o _ _ _ (sym e) }

written : (c : After-write_form)
    → (c.write_form.new.out ≡ wrote (goal.at.After-write_form c).Start c.args.base_offset.0 c.args.flag_offset.0 c.args.flag_len.0)
written c =
    let a = c.args in
    c.write_form.ensures
    ∙ ap₂ (λ (x y : ℕ). wrote (goal.at.After-write_form c).Start x y a.base_len.0) c.count-a.ensures c.count-b.ensures
    ∙ ap (wrote (goal.at.After-write_form c).Start a.base_offset.0 a.flag_offset.0) (right (goal.at.After-write_form c).In_ok-write_outcome).same

pub returns : goal.returns
unfolding write_answer write_after write_outcome
returns c =
    record {
      answer = answer_done (outcome (goal.at.returns c).Start) _ _ 0 (done (goal.at.returns c).In_ok-write_outcome) c.form_size.ensures;
      bytes = written (goal.at.returns c).After-write_form ∙ gives_done (outcome (goal.at.returns c).Start) _ c.args.out.now (done (goal.at.returns c).In_ok-write_outcome);
    }
