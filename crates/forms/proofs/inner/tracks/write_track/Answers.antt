-- The part from `at` on is lent and comes back. Assumes nothing.
use Rattle.codes.specs.Codes.{up, chars}
use Rattle.codes.specs.Words.{packed}
use Rattle.codes.proofs.Turns.{lent-on}
use Rattle.forms.proofs.inner.tracks.write_track.Goals as goal

pub returns : goal.returns
returns g c =
    let a = c.args in
    lent-on a.at (up g.W.Width.BITS a.len) (packed g.W.Width.BITS (chars g.W.Width.BITS a.bytes.now a.offset a.len)) a.out.now c.pack_view.new.out c.pack_view.ensures
