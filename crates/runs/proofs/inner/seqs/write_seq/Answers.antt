-- The zeros behind what was filled make it whole. Assumes nothing.
use mathlib.Core.List.{List}
use mathlib.Core.Path.{◌≡◌, sym, ap, ◌∙◌}
use Prim.Native.Nat.{ℕ, ◌+◌, ◌*◌, ◌^◌, ◌≤◌}
use native.Mathlib.Omega.{arith}
use lib.ListN.{length}
use Rattle.codes.specs.Codes.{IsWidth, per, up, trailing}
use Rattle.codes.proofs.MadeLaws.{made_at}
use Rattle.runs.specs.Bytes.{placed_chars}
use Rattle.runs.specs.Runs.{spliced}
use Rattle.runs.specs.declared.inner.seqs.Place.{Place}
use Rattle.runs.proofs.RoomLaws.{room_chars}
use Rattle.runs.proofs.SeqLaws.{seq_end}
use Rattle.runs.proofs.WrittenLaws.{made-written}
use Rattle.runs.proofs.inner.seqs.write_seq.Given.{Over}
use Rattle.runs.proofs.inner.seqs.write_seq.Goals.{After-count-last}
use Rattle.runs.proofs.inner.seqs.write_seq.Goals as goal

-- what is known once the end is
module _ (g : Over) (c : After-count-last g) where
  abbrev p : Place
  p = c.args.p

  abbrev W : IsWidth g.W.Width.BITS
  W = g.W.Width.divides

  abbrev end : ℕ
  end = p.start + p.count

  small : length c.args.buffer.now ≤ 2 ^ 28
  small = c.requires.buffer_len_bound.0

  room : up g.W.Width.BITS end + trailing ≤ length c.args.buffer.now
  room = c.requires.buffer_len_bound.1

  last_is : c.count-last.result ≡ up g.W.Width.BITS end
  last_is = c.count-last.ensures ∙ c.bytes_as.ensures ∙ ap (up g.W.Width.BITS) c.new.ensures

pub overflow_add-p : goal.overflow_add-p
overflow_add-p g c =
    let a = c.args in
    omega (arith, room_chars g.W.Width.divides (a.p.start + a.p.count) (length a.buffer.now) (omega (arith, c.requires.buffer_len_bound.1)) c.requires.buffer_len_bound.0)

pub overflow_add-last : goal.overflow_add-last
overflow_add-last g c = omega (arith, last_is g (goal.at.overflow_add-last g c).After-count-last, room g (goal.at.overflow_add-last g c).After-count-last, small g (goal.at.overflow_add-last g c).After-count-last)

pub zero_run-requires : goal.zero_run-requires
zero_run-requires g c = (omega arith, omega (arith, last_is g (goal.at.zero_run-requires g c).After-count-last, room g (goal.at.zero_run-requires g c).After-count-last, c.fill_seq.auto.buffer))

pub returns : goal.returns
returns g c =
    let a = c.args in
    let v = p g (goal.at.returns g c).After-count-last in
    let cs : List ℕ = placed_chars g.W.Width.BITS v a.view.now in
    let n : end g (goal.at.returns g c).After-count-last ≡ v.len + length cs = ap (λ (x : ℕ). x + v.count) c.requires.placed.starts
    ∙ sym (seq_end (W g (goal.at.returns g c).After-count-last) v.len a.view.now v.offset v.count) in
    made-written (W g (goal.at.returns g c).After-count-last) a.buffer.now v.len cs (made_at trailing c.zero_run.ensures (last_is g (goal.at.returns g c).After-count-last ∙ ap (up g.W.Width.BITS) n))
    (c.fill_seq.ensures ∙ ap (λ (x : ℕ). spliced g.W.Width.BITS a.buffer.now v.len cs (up g.W.Width.BITS x * per g.W.Width.BITS)) n)
