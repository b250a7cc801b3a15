use mathlib.Core.List.{map}
use mathlib.Core.Path.{◌≡◌, refl, sym, ap, ap₂, ◌∙◌}
use Prim.Native.Nat.{ℕ, ◌+◌, ◌*◌, ◌^◌, ◌<◌}
use native.Mathlib.Omega.{arith}
use Rattle.codes.specs.Codes.{per, code, tab}
use Rattle.codes.specs.Words.{word}
use Rattle.codes.proofs.TabLaws.{word-tab_step}
use Rattle.runs.specs.Bytes.{fresh_byte}
use Rattle.runs.proofs.SpliceLaws.{codes_lt}
use Rattle.runs.proofs.FreshLaws.{fresh_lt, word-tab_lt}
use Rattle.runs.proofs.inner.edges.fresh_byte.Invariants.{made}
use Rattle.runs.proofs.inner.edges.fresh_byte.Given.{Over}
use Rattle.runs.proofs.inner.edges.fresh_byte.Goals.{After-count-first}
use Rattle.runs.proofs.inner.edges.fresh_byte.Goals as goal

-- the characters of a byte, and the place of its first
module _ (g : Over) (c : After-count-first g) where
  size : c.count-c.result ≡ per g.W.Width.BITS
  size = c.count-c.ensures ∙ c.per_byte.ensures

  first_is : c.count-first.result ≡ c.args.b * per g.W.Width.BITS
  first_is = c.count-first.ensures ∙ c.chars_in.ensures ∙ ap (λ (x : ℕ). x * per g.W.Width.BITS) c.new.ensures

pub loop-k-init : goal.loop-k-init
unfolding tab word
loop-k-init g c = refl

pub add_digit-byte-requires : goal.add_digit-byte-requires
add_digit-byte-requires g c =
    let a = c.args in
    let f : ℕ → ℕ = made a.old g.W.Width.BITS c.count-first.result a.at a.letters.now a.stop in
    let fit : (j : ℕ) → f j < 2 ^ g.W.Width.BITS = λ j. fresh_lt g.W.Width.BITS a.old a.at (map (code g.W.Width.BITS) a.letters.now) a.stop (codes_lt g.W.Width.divides a.letters.now) (c.count-first.result + j) j in
    record { k_bound = omega (arith, size g (goal.at.add_digit-byte-requires g c).After-count-first); low_bound = (rw c.loop-k.invariant (word-tab_lt g.W.Width.BITS c.loop-k.k f fit), rw c.fresh_char-v.ensures (fit c.loop-k.k)) }

pub loop-k-preserved : goal.loop-k-preserved
loop-k-preserved g c =
    let a = c.args in
    let f : ℕ → ℕ = made a.old g.W.Width.BITS c.count-first.result a.at a.letters.now a.stop in
    c.add_digit-byte.ensures ∙ ap₂ (λ (x y : ℕ). x * 2 ^ (g.W.Width.BITS * c.loop-k.k) + y) {y = f c.loop-k.k} c.fresh_char-v.ensures c.loop-k.invariant ∙ sym (word-tab_step g.W.Width.BITS c.loop-k.k f)

pub returns : goal.returns
unfolding fresh_byte
returns g c =
    let a = c.args in
    let e : c.loop-k.k ≡ per g.W.Width.BITS = omega (arith, size g (goal.at.returns g c).After-count-first) in
    c.loop-k.invariant
    ∙ ap₂ (λ (n x : ℕ). word g.W.Width.BITS (tab n (made a.old g.W.Width.BITS x a.at a.letters.now a.stop))) e (first_is g (goal.at.returns g c).After-count-first)
