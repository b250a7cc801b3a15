-- By what comparing the two answers. Assumes nothing.
use Rattle.order.proofs.LeastLaws.{choice-compared, choice-refused}
use Rattle.order.proofs.inner.least.choose.Goals as goal

pub returns-in_err-compared : goal.returns-in_err-compared
returns-in_err-compared g c =
    let a = c.args in
    choice-refused g.W.Width.BITS a.a.now a.ao.0 a.al.0 a.b.now a.bo.0 a.bl.0 _ _ c.in_err-compared.ensures c.from_residual.ensures.1

pub returns : goal.returns
returns g c =
    let a = c.args in
    choice-compared g.W.Width.BITS a.a.now a.ao.0 a.al.0 a.b.now a.bo.0 a.bl.0 _ _ c.in_ok-compared.ensures c.is_gt.ensures
