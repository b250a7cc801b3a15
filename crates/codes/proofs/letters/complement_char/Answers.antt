-- Four capitals by computation, and no other byte. Assumes nothing.
use Rattle.codes.specs.Codes.{capitals}
use Rattle.codes.proofs.CodeLaws.{place_out}
use Rattle.codes.proofs.letters.complement_char.Goals as goal

pub returns-in-65 : goal.returns-in-65
returns-in-65 c = rw c.in-65.is

pub returns-in-67 : goal.returns-in-67
returns-in-67 c = rw c.in-67.is

pub returns-in-84 : goal.returns-in-84
returns-in-84 c = rw c.in-84.is

pub returns-in-71 : goal.returns-in-71
returns-in-71 c = rw c.in-71.is

pub returns-in_default : goal.returns-in_default
returns-in_default c =
    let n = c.in_default.in_default-own.rest in
    simp (place_out capitals c.args.byte (n.0.0.0.1, (n.0.0.1, (n.0.1, (n.1, tt)))))
