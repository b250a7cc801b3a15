use mathlib.Core.List.{List, append-nil}
use mathlib.Core.Path.{◌≡◌, sym, ap, ◌∙◌}
use Prim.Native.Nat.{ℕ, ◌+◌, ◌-◌}
use native.Mathlib.Omega.{arith}
use borrow.Author.Rules.{rules}
use lib.ListN.{length, take, drop, set, length-set, length-drop}
use lib.Seq.{sets, take_all}
use Rattle.rows.specs.Columns.{decimal}
use Rattle.rows.proofs.DecimalLaws.{spelt-more, spelt-last}
use Rattle.rows.proofs.inner.puts.put_decimal.Goals as goal

pub loop-rest-init : goal.loop-rest-init
loop-rest-init c = record { some = search rules; few = search rules; long = search rules; small = search rules; digits = sym (append-nil (decimal c.args.n)) }

pub loop-rest-preserved : goal.loop-rest-preserved
loop-rest-preserved c = spelt-more _ _ _ _ c.loop-rest.invariant (search rules)

pub slice_bounds-put_text-end : goal.slice_bounds-put_text-end
slice_bounds-put_text-end c = omega (arith, length-set c.loop-rest.text (c.loop-rest.i - 1) (48 + c.loop-rest.rest), c.loop-rest.invariant.long)

pub returns : goal.returns
returns c =
    let l = c.loop-rest in
    let a = c.args in
    let t : List ℕ = set l.text (l.i - 1) (48 + l.rest) in
    let e : take (20 - (l.i - 1)) (drop (l.i - 1) t) ≡ decimal a.n =
    take_all (20 - (l.i - 1)) (drop (l.i - 1) t) (omega (arith, length-drop (l.i - 1) t, length-set l.text (l.i - 1) (48 + l.rest), l.invariant.long))
    ∙ sym (spelt-last a.n l.i l.rest l.text l.invariant (search rules)) in
    record {
      behind = c.put_text.ensures.behind ∙ ap (λ (x : List ℕ). a.at + length x) e;
      bytes = c.put_text.ensures.bytes ∙ ap (sets a.out.now a.at) e;
    }
