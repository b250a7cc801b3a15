-- The head, then the base bytes behind it, then the flag bytes. Assumes nothing.
use Rattle.std.specs.Prelude.{Ok}
use mathlib.Core.List.{◌++◌}
use mathlib.Core.Path.{◌≡◌, sym, ap, ◌∙◌, subst}
use Prim.Native.Nat.{ℕ, suc, ◌+◌, ◌≤◌}
use native.Mathlib.Omega.{arith}
use lib.ListN.{length, drop}
use borrow.Author.Rules.{rules}
use Rattle.codes.specs.Codes.{up, chars}
use Rattle.codes.specs.Refusals.{first, view_tests}
use Rattle.codes.specs.Widths.{width_2}
use Rattle.codes.proofs.WidthLaws.{up_le}
use Rattle.forms.specs.Forms.{stored, form_size}
use Rattle.forms.specs.Numbers.{spelt}
use Rattle.forms.proofs.FormLaws.{form_written}
use Rattle.forms.proofs.NumberLaws.{length-spelt}
use Rattle.forms.proofs.inner.writing.write_form.Goals.{After-count}
use Rattle.forms.proofs.inner.writing.write_form.Goals as goal

pub overflow_add-base_at : goal.overflow_add-base_at
overflow_add-base_at c = omega (arith, c.spelt_size-base_at.ensures, length-spelt 5 c.count-n.result)

module _ (c : After-count) where
  -- the length, and the bytes of its number
  abbrev n : ℕ
  n = c.count-n.result

  abbrev size : ℕ
  size = c.spelt_size-base_at.result

  n_is : n ≡ c.args.len.0
  n_is = c.count-n.ensures

  -- where the base bytes begin, and the flag bytes
  base_at_lem : 1 + size ≡ suc (length (spelt 5 n))
  base_at_lem = let e = c.spelt_size-base_at.ensures in omega arith

  flag_at_lem : 1 + size + c.count.result ≡ 1 + size + up 2 n
  flag_at_lem = ap (λ (x : ℕ). 1 + size + x) (c.count.ensures ∙ c.bytes_as.ensures ∙ ap (up 2) (sym n_is))

  -- there is room for the form
  room : form_size n ≤ length c.args.out.now
  room = subst (λ (k : ℕ). form_size k ≤ length c.args.out.now) (sym n_is) c.requires.len_bound.1

pub overflow_add-flag_at : goal.overflow_add-flag_at
overflow_add-flag_at c = omega (arith, base_at_lem c, flag_at_lem c, length-spelt 5 (n c), up_le width_2 (n c))

pub write_head-requires : goal.write_head-requires
write_head-requires c = (omega (arith, c.count-n.ensures), omega (arith, room (goal.at.write_head-requires c).After-count))

pub write_track-requires : goal.write_track-requires
write_track-requires c =
    let a = c.args in
    let l : length c.write_head.new.out ≡ length a.out.now = search rules in
    record {
      len_value = subst (λ (x : ℕ). first (view_tests 2 (length a.bases.now) a.ao x) ≡ Ok tt) (sym (n_is (goal.at.write_track-requires c).After-count))
          c.requires.len_value;
      len_in_bounds = omega (arith, room (goal.at.write_track-requires c).After-count, base_at_lem (goal.at.write_track-requires c).After-count);
    }

pub write_track-requires-2 : goal.write_track-requires-2
write_track-requires-2 c =
    let a = c.args in
    let l : length c.write_track.new.out ≡ length a.out.now = search rules in
    record {
      len_value = subst (λ (x : ℕ). first (view_tests 1 (length a.flags.now) a.bo x) ≡ Ok tt) (sym (n_is (goal.at.write_track-requires-2 c).After-count))
          c.requires.len_value_2;
      len_in_bounds = omega (
        arith,
        room (goal.at.write_track-requires-2 c).After-count,
        base_at_lem (goal.at.write_track-requires-2 c).After-count,
        flag_at_lem (goal.at.write_track-requires-2 c).After-count,
      );
    }

pub returns : goal.returns
returns c =
    let a = c.args in
    form_written a.bases.now a.ao a.flags.now a.bo (n (goal.at.returns c).After-count) a.out.now _ _ _ _ _ (base_at_lem (goal.at.returns c).After-count) (flag_at_lem (goal.at.returns c).After-count)
    c.write_head.ensures c.write_track.ensures c.write_track-2.ensures
    ∙ ap (λ (k : ℕ). stored (chars 2 a.bases.now a.ao k) (chars 1 a.flags.now a.bo k) ++ drop (form_size k) a.out.now) (n_is (goal.at.returns c).After-count)
