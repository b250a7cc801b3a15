use mathlib.Core.Path.{◌≡◌, refl, subst}
use Prim.Native.Nat.{ℕ, ◌+◌, ◌-◌, ◌*◌}
use native.Mathlib.Omega.{arith}
use Rattle.codes.specs.Codes.{chars, tab}
use Rattle.codes.specs.Made.{Made}
use Rattle.codes.proofs.MadeLaws.{made_none, made-on, made-to, made-is}
use Rattle.windows.specs.Marks.{until_at}
use Rattle.windows.specs.Windows.{windows_filled, window_entry}
use Rattle.windows.proofs.WindowLaws.{marks_none}
use Rattle.windows.proofs.inner.windows.window_lanes.Goals.{After-write_windows-next}
use Rattle.windows.proofs.inner.windows.window_lanes.Goals as goal

pub loop-j-init : goal.loop-j-init
loop-j-init c =
    let a = c.args in (omega arith, marks_none (chars 1 a.bytes.now a.offset a.len) a.n a.k, made_none (omega arith))

pub lane_words-words-requires : goal.lane_words-words-requires
lane_words-words-requires c = record { len_value = c.requires.len_value; turn_value = (refl, c.requires.n_bound.0, omega arith) }

pub write_windows-next-requires : goal.write_windows-next-requires
write_windows-next-requires c =
    record {
      count_bound = (omega (arith, c.smaller-count.ensures), omega arith, c.requires.n_bound.1);
      skip_in_bounds = omega (arith, c.smaller-count.ensures, c.loop-j.auto.out, c.requires.skip_in_bounds);
    }

-- the steps of one turn more
turn : (c : After-write_windows-next) → let a = c.args in let cs = chars 1 a.bytes.now a.offset a.len in let j = c.loop-j.j + c.smaller-count.result in
    (c.write_windows-next.result ≡ tab 8 (until_at cs a.n a.k j)) × Made (window_entry cs a.n a.k a.skip) 0 (8 * (j - a.skip)) a.out.now c.write_windows-next.new.out
turn c =
    let a = c.args in
    let o = c.loop-j.invariant in
    let p = c.write_windows-next.ensures (chars 1 a.bytes.now a.offset a.len) a.n c.lane_words-words.ensures o.1 in
    (p.0, made-on o.2 p.1 (omega arith) (omega arith))

pub loop-j-preserved : goal.loop-j-preserved
loop-j-preserved c =
    let a = c.args in
    let t = turn (goal.at.loop-j-preserved c).After-write_windows-next in
    let e : c.smaller-count.result ≡ 64 = omega (arith, c.smaller-count.ensures) in
    let j : c.loop-j.j + c.smaller-count.result ≡ c.loop-j.j + 64 = omega (arith, e) in
    (omega arith, subst (λ (j : ℕ). c.write_windows-next.result ≡ tab 8 (until_at (chars 1 a.bytes.now a.offset a.len) a.n a.k j)) j t.0, made-to t.1 (omega (arith, e)))

pub returns : goal.returns
unfolding windows_filled
returns c = made-is (made-to c.loop-j.invariant.2 (omega arith)) c.requires.skip_in_bounds

-- the last turn
pub returns-2 : goal.returns-2
unfolding windows_filled
returns-2 c = made-is (made-to (turn (goal.at.returns-2 c).After-write_windows-next).1 (omega (arith, c.smaller-count.ensures))) c.requires.skip_in_bounds
