-- The second view is the first's reverse complement, so the order answered is that of the two. Assumes nothing.
use mathlib.Core.List.{List}
use mathlib.Core.Path.{◌≡◌, sym, ap, ◌∙◌}
use Prim.Native.Nat.{ℕ}
use borrow.Author.Rules.{rules}
use Rattle.codes.specs.Codes.{chars}
use Rattle.codes.specs.Refusals.{answer}
use Rattle.order.specs.Answers.{compared_says}
use Rattle.std.specs.Prelude.{Ok}
use Rattle.std.specs.Result.{is_ok}
use lib.IntN.{pos}
use Rattle.order.specs.Order.{compare, common, order_number}
use Rattle.fields.specs.Fields.{flipped}
use Rattle.writes.specs.Writes.{flipped_over}
use Rattle.std.specs.declared.cmp.Ordering.{Ordering}
use Rattle.std.specs.declared.cmp.Ordering.TheVariants.{Less, Equal, Greater}
use Rattle.rows.specs.Columns.{sign, strand_of}
use Rattle.rows.proofs.StrandLaws.{flip-passed, flip-left, strand-order, is_done, is_order}
use Rattle.rows.proofs.inner.strands.strand.Goals.{After-compare, After-unwrap-compared}
use Rattle.rows.proofs.inner.strands.strand.Goals as goal

module _ (c : After-compare) where
  abbrev cs : List ℕ
  cs = chars 2 c.args.bases.now 0 c.args.count

  order : Ordering
  order = compare cs (flipped 2 cs)

  left : c.to_revcomp.new.out ≡ flipped_over 2 c.args.bases.now 0 c.args.count c.args.other.now
  left =
      let flip = c.to_revcomp in
      flip-left c.args.bases.now c.args.other.now c.args.count c.requires (search rules) (search rules) flip.result _ _ _
      c.new-none.ensures c.new-len.ensures flip.ensures.outcome flip.ensures.bytes

  right : compared_says c.compare.result ≡ answer (Ok tt) (order_number order, common cs (flipped 2 cs)) (pos 0, 0)
  unfolding order
  right =
      let flip = c.to_revcomp in
      strand-order c.args.bases.now c.args.other.now c.args.count c.requires (search rules) (search rules) flip.result _ _ _
      c.new-none.ensures c.new-len.ensures flip.ensures.outcome flip.ensures.bytes c.compare.result flip.auto.out c.compare.ensures

pub unwrap-requires : goal.unwrap-requires
unwrap-requires c =
    let flip = c.to_revcomp in
    ap is_ok
    (flip-passed c.args.bases.now c.args.other.now c.args.count c.requires (search rules) (search rules) flip.result _ _ _
    c.new-none.ensures c.new-len.ensures flip.ensures.outcome flip.ensures.bytes)

pub unwrap-compared-requires : goal.unwrap-compared-requires
unwrap-compared-requires c = is_done c.compare.result (order c) _ (right c)

-- the sign of the order that is found
found : (c : After-unwrap-compared) (o : Ordering) → c.unwrap-compared.result.order ≡ o → sign o ≡ strand_of (cs (goal.at.After-unwrap-compared c).After-compare)
unfolding order strand_of
found c o e =
    let at = (goal.at.After-unwrap-compared c).After-compare in
    ap sign (sym e ∙ is_order c.compare.result (order at) _ (right at) c.unwrap-compared.result c.unwrap-compared.ensures)

pub returns-in-Less : goal.returns-in-Less
returns-in-Less c =
    let at = (goal.at.returns-in-Less c).After-unwrap-compared in
    record { says = found at Less c.in-Less.is; other = left (goal.at.returns-in-Less c).After-compare }

pub returns-in-Equal : goal.returns-in-Equal
returns-in-Equal c =
    let at = (goal.at.returns-in-Equal c).After-unwrap-compared in
    record { says = found at Equal c.in-Equal.is; other = left (goal.at.returns-in-Equal c).After-compare }

pub returns-in-Greater : goal.returns-in-Greater
returns-in-Greater c =
    let at = (goal.at.returns-in-Greater c).After-unwrap-compared in
    record { says = found at Greater c.in-Greater.is; other = left (goal.at.returns-in-Greater c).After-compare }
