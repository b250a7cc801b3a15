-- There and back, of the calls: whatever satisfies their contracts. Letters that were packed to a word or pushed to a store of bases are unpacked as
-- capitals with T for U; a view reversed twice has its characters again; and the word of pushed letters is the word that they pack to.
-- Assumes nothing.
use denote.Param.Laws.{Laws}
use denote.RattleType.{RattleType}
use mir.Syntax.{Dict}
use Rattle.codes.specs.declared.widths.Width.{Ghosts}
use Rattle.std.specs.Prelude.{Ok}
use borrow.Fn.Kinds.{Out, ParamKind, ResultKind, Dens, res_t, ended_of}
use contract.Lifetimes.{Lfts}
use denote.Triple.Clauses.{AtExit}
use mathlib.Core.Bool.{Bool, true, false, ◌&&◌}
use mathlib.Core.List.{List, [], ◌∷◌, ◌++◌, map, map-append, reverse, reverse-cons, reverse-reverse}
use mathlib.Core.Logic.{◌⊎◌, ⊎_elim}
use mathlib.Core.Path.{◌≡◌, refl, sym, ap, ap₂, ◌∙◌, subst}
use Prim.Native.Nat.{ℕ, zero, suc, ◌+◌, ◌-◌, ◌*◌, ◌/◌, ◌^◌, ◌≤◌, ◌<◌}
use native.Mathlib.Nat.{div-add-mod', zero-add, add-mul, mul-le-mul_right}
use native.Mathlib.Omega.{arith}
use borrow.Author.Tests.{le-ltb, ltb-false, eqb-true}
use lib.Bits.{bit_xor}
use lib.Dec.{leb, eqb}
use lib.ListN.{length, drop, replicate, length-map, length-append, length-drop, length-replicate}
use lib.Seq.{drop_at}
use Rattle.codes.specs.Answers.{says, word128_says, halves}
use Rattle.codes.specs.Codes.{IsWidth, per, up, trailing, chars, code, complement, letter, lossy, pick}
use Rattle.codes.specs.Refusals.{answer, first, if_done, number_of, bad_word, no_room, view_tests, Outcome}
use Rattle.codes.specs.Words.{word, chars_of, packed}
use Rattle.codes.specs.contracts.widths.Bases.{the_row}
use Rattle.codes.specs.contracts.widths.BasesWidth.TheImpl.{ghosts, dict}
use Rattle.codes.proofs.widths.Bases.TheLaws.{the_row_laws}
use Rattle.codes.proofs.AnswerLaws.{told, word128_told}
use Rattle.codes.proofs.CharLaws.{length-chars, chars-append, chars-fit}
use Rattle.codes.proofs.CodeLaws.{lossy-lt}
use Rattle.codes.proofs.OutcomeLaws.{first_done, room_right}
use Rattle.codes.proofs.RefusalLaws.{ltb-zero, outcome_at, outcome_at_number, says-once}
use Rattle.codes.specs.Widths.{width_1, width_2}
use Rattle.codes.proofs.WidthLaws.{up-hi}
use Rattle.codes.proofs.WordLaws.{Below, Below-map, chars_of-word}
use Rattle.fasta.proofs.HoldLaws.{push_length}
use Rattle.fasta.proofs.PushLaws.{push_chars}
use Rattle.fields.specs.Fields.{as_u64, as_u128, flipped, word_tests}
use Rattle.rows.proofs.StrandLaws.{packed-long, flipped-chars}
use Rattle.stores.specs.Answers.{pushed_says}
use Rattle.stores.specs.Stores.{push_ascii, tests, outcome, answered, after}
use Rattle.stores.proofs.CallLaws.{Passed, done_passed}
use Rattle.writes.specs.Writes.{unpack_outcome, unpacked_over, flip_outcome, flipped_over}
use Rattle.codes.proofs.words.pack_kmer_lossy.Kinds as pack·kinds
use Rattle.codes.proofs.words.pack_kmer_lossy.Reads as pack
use Rattle.codes.proofs.words.pack_kmer_u128_lossy.Kinds as pack128·kinds
use Rattle.codes.proofs.words.pack_kmer_u128_lossy.Reads as pack128
use Rattle.codes.proofs.words.unpack_kmer.Kinds as unpack·kinds
use Rattle.codes.proofs.words.unpack_kmer.Reads as unpack
use Rattle.codes.proofs.words.unpack_kmer_u128.Kinds as unpack128·kinds
use Rattle.codes.proofs.words.unpack_kmer_u128.Reads as unpack128
use Rattle.stores.proofs.calls.push_ascii.Kinds as push·kinds
use Rattle.stores.proofs.calls.push_ascii.Reads as push
use Rattle.views.proofs.calls.as_u64.Kinds as as-u64·kinds
use Rattle.views.proofs.calls.as_u64.Reads as as-u64
use Rattle.views.proofs.calls.as_u128.Kinds as as-u128·kinds
use Rattle.views.proofs.calls.as_u128.Reads as as-u128
use Rattle.writes.proofs.calls.unpack.Kinds as view·kinds
use Rattle.writes.proofs.calls.unpack.Reads as view
use Rattle.writes.proofs.calls.to_revcomp.Kinds as flip·kinds
use Rattle.writes.proofs.calls.to_revcomp.Reads as flip

-- a call, by its contract as the checker reads it from the source: what it is given, what it answers, and what stands at exit
pub record Call (n : ℕ) (ps : List (ParamKind n)) (r : ResultKind n) (Q : Out n ps r) : Type 0 where
  pub lifetimes : Lfts n
  pub given : Dens lifetimes ps
  pub says : (res_t r lifetimes).Denot
  pub left : AtExit (ended_of n ps r) lifetimes
  pub meets : Q lifetimes given says left

-- the ten letters ACGTUacgtu
abbrev pub ten : List ℕ
ten = 65 ∷ 67 ∷ 71 ∷ 84 ∷ 85 ∷ 97 ∷ 99 ∷ 103 ∷ 116 ∷ 117 ∷ []

-- x is one of a list
abbrev pub Among : List ℕ → ℕ → Type 0
Among [] x = ⊥
Among (y ∷ ys) x = (x ≡ y) ⊎ Among ys x

-- each is one of the ten letters
abbrev pub Letters : List ℕ → Type 0
Letters [] = Unit {0}
Letters (x ∷ xs) = Among ten x × Letters xs

-- a letter as a capital: 32 below a small one
abbrev pub large : ℕ → ℕ
large x = pick (leb 97 x && leb x 122) (x - 32) x

-- and with T for U
abbrev pub capital : ℕ → ℕ
capital x = pick (eqb (large x) 85) 84 (large x)

-- what holds of each of a list
abbrev All : (ℕ → Type 0) → List ℕ → Type 0
All P [] = Unit {0}
All P (y ∷ ys) = P y × All P ys

of_all : (P : ℕ → Type 0) (ys : List ℕ) → All P ys → (x : ℕ) → Among ys x → P x
of_all P [] a x h = absurd h
of_all P (y ∷ ys) a x h = ⊎_elim (λ e. subst P (sym e) a.0) (of_all P ys a.1 x) h

letter-back : (x : ℕ) → Among ten x → letter (lossy x) ≡ capital x
letter-back = of_all (λ x. letter (lossy x) ≡ capital x) ten (refl, (refl, (refl, (refl, (refl, (refl, (refl, (refl, (refl, (refl, tt))))))))))

codes_back : (ls : List ℕ) → Letters ls → map letter (map lossy ls) ≡ map capital ls
codes_back [] h = refl
codes_back (x ∷ ls) h = ap₂ (λ (c : ℕ) (cs : List ℕ). c ∷ cs) (letter-back x h.0) (codes_back ls h.1)

-- unpacking is done, and leaves the capitals of letters at the front of a buffer; its later bytes stay
pub record Back (o : Outcome) (ls out out' : List ℕ) : Type 0 where
  pub done : o ≡ Ok tt
  pub capitals : out' ≡ map capital ls ++ drop (length ls) out

-- words of so many letters, at most
module _ (most : ℕ) (ls : List ℕ) (fits : length ls ≤ most) where
  packs : first (bad_word 0 most (length ls) ∷ []) ≡ Ok tt
  packs = rw (ltb-zero (length ls), le-ltb most (length ls) fits)

  unpacks : (out : List ℕ) → length ls ≤ length out → first (bad_word 0 most (length ls) ∷ no_room (length out) (length ls) ∷ []) ≡ Ok tt
  unpacks out room = rw (ltb-zero (length ls), le-ltb most (length ls) fits, le-ltb (length out) (length ls) room)

  word_back : Letters ls → map letter (chars_of 2 (length ls) (word 2 (map lossy ls))) ≡ map capital ls
  word_back t =
      ap (λ (k : ℕ). map letter (chars_of 2 k (word 2 (map lossy ls)))) (sym (length-map ls lossy))
      ∙ ap (map letter) (chars_of-word 2 (map lossy ls) (Below-map 2 lossy lossy-lt ls))
      ∙ codes_back ls t

  kmer : Letters ls → (out : List ℕ) → length ls ≤ length out → (o : Outcome) (out' : List ℕ) (x k : ℕ) → x ≡ word 2 (map lossy ls) → k ≡ length ls
      → o ≡ first (bad_word 0 most k ∷ no_room (length out) k ∷ []) → out' ≡ if_done o (map letter (chars_of 2 k x) ++ drop k out) out → Back o ls out out'
  kmer t out room o out' x k ex ek eo e =
      let d : o ≡ Ok tt = eo ∙ ap (λ (j : ℕ). first (bad_word 0 most j ∷ no_room (length out) j ∷ [])) ek ∙ unpacks out room in
      record {
        done = d;
        capitals = e ∙ (λ i. if_done (d i) (map letter (chars_of 2 (ek i) (ex i)) ++ drop (ek i) out) out) ∙ ap (λ (l : List ℕ). l ++ drop (length ls) out) (word_back t);
      }

-- up to 32 of the ten letters, packed to a word and unpacked
pub kmer_back : (p : Call 1 pack·kinds.ps pack·kinds.r pack.Post) (u : Call 1 unpack·kinds.ps unpack·kinds.r unpack.Post)
    → Letters p.given.0.now → length p.given.0.now ≤ 32 → length p.given.0.now ≤ length u.given.1.1.0.now
    → u.given.0 ≡ (says p.says).values → u.given.1.0.0 ≡ length p.given.0.now
    → ((says p.says).no ≡ 0) × Back u.says p.given.0.now u.given.1.1.0.now u.left.1.1.0.now
kmer_back p u t fits room ex ek =
    let ls : List ℕ = p.given.0.now in
    let says : says p.says ≡ answer (Ok tt) (word 2 (map lossy ls)) 0 = p.meets ∙ ap (λ (o : Outcome). answer o (word 2 (map lossy ls)) 0) (packs 32 ls fits) in (
      ap (λ (a : _). a.no) says,
      kmer 32 ls fits t u.given.1.1.0.now room u.says u.left.1.1.0.now u.given.0 u.given.1.0.0 (ex ∙ ap (λ (a : _). a.values) says) ek u.meets.0 u.meets.1,
    )

-- up to 64, packed to the two halves of a word
pub kmer_128_back : (p : Call 1 pack128·kinds.ps pack128·kinds.r pack128.Post) (u : Call 1 unpack128·kinds.ps unpack128·kinds.r unpack128.Post)
    → Letters p.given.0.now → length p.given.0.now ≤ 64 → length p.given.0.now ≤ length u.given.1.1.1.0.now
    → ◌≡◌ {A = ℕ × ℕ} (u.given.0, u.given.1.0) (word128_says p.says).values → u.given.1.1.0.0 ≡ length p.given.0.now
    → ((word128_says p.says).no ≡ 0) × Back u.says p.given.0.now u.given.1.1.1.0.now u.left.1.1.1.0.now
kmer_128_back p u t fits room ex ek =
    let ls : List ℕ = p.given.0.now in
    let x : ℕ = word 2 (map lossy ls) in
    let says : word128_says p.says ≡ answer (Ok tt) (halves x) (halves 0) = p.meets ∙ ap (λ (o : Outcome). answer o (halves x) (halves 0)) (packs 64 ls fits) in
    let both : u.given.1.0 * 2 ^ 64 + u.given.0 ≡ x = ap (λ (h : ℕ × ℕ). h.1 * 2 ^ 64 + h.0) (ex ∙ ap (λ (a : _). a.values) says) ∙ div-add-mod' x (2 ^ 64) in (
      ap (λ (a : _). a.no) says,
      kmer 64 ls fits t u.given.1.1.1.0.now room u.says u.left.1.1.1.0.now (u.given.1.0 * 2 ^ 64 + u.given.0) u.given.1.1.0.0 both ek u.meets.0 u.meets.1,
    )

-- a view with 48 bytes behind it is accepted
accepted_at : {w : ℕ} → IsWidth w → (bs : List ℕ) (o n : ℕ) → length bs ≤ 2 ^ 28 → up w (o + n) + trailing ≤ length bs → first (view_tests w (length bs) o n) ≡ Ok tt
accepted_at {w} W bs o n small room =
    let fits : o + n + trailing * per w ≤ length bs * per w = omega (arith, up-hi W (o + n), mul-le-mul_right (per w) room, add-mul (up w (o + n)) trailing (per w)) in
    rw (le-ltb (2 ^ 28) (length bs) small, le-ltb (length bs * per w) (o + n + trailing * per w) fits)

-- letters that were pushed to a store of bases of a length
module _ (bs : List ℕ) (len : ℕ) (ls : List ℕ) (done : outcome 2 (length bs) len (push_ascii ls) ≡ Ok tt) where
  abbrev bs' : List ℕ
  bs' = after 2 bs len (push_ascii ls)

  passed : Passed (tests 2 (length bs) len (push_ascii ls))
  unfolding outcome
  passed = done_passed (tests 2 (length bs) len (push_ascii ls)) (sym done)

  small : length bs ≤ 2 ^ 28
  small = ltb-false (2 ^ 28) (length bs) passed.0

  room : up 2 (len + length ls) + trailing ≤ length bs
  room = ltb-false (length bs) (up 2 (len + length ls) + trailing) passed.1.1.0

  -- their characters
  stretch : chars 2 bs' len (length ls) ≡ map lossy ls
  unfolding code
  stretch =
      ap (λ (o : ℕ). chars 2 bs' o (length ls)) (sym (zero-add len))
      ∙ sym (drop_at (chars 2 bs' 0 len) (chars 2 bs' (0 + len) (length ls)) len (length-chars 2 bs' 0 len))
      ∙ ap (drop len) (sym (chars-append 2 bs' 0 len (length ls)) ∙ push_chars width_2 bs len ls done (omega (arith, room)))
      ∙ drop_at (chars 2 bs 0 len) (map lossy ls) len (length-chars 2 bs 0 len)

  -- and the view of them is accepted
  accepted : first (view_tests 2 (length bs') len (length ls)) ≡ Ok tt
  accepted =
      let n : length bs' ≡ length bs = push_length 2 bs len ls in
      accepted_at width_2 bs' len (length ls) (omega (arith, small, n)) (omega (arith, room, n))

  unpacked : Letters ls → (out : List ℕ) → length ls ≤ length out → (r : Outcome) (out' : List ℕ) → r ≡ unpack_outcome bs' len (length ls) out
      → out' ≡ if_done r (unpacked_over bs' len (length ls) out) out → Back r ls out out'
  unfolding unpack_outcome unpacked_over
  unpacked t out enough r out' er e =
      let d : r ≡ Ok tt = er ∙ first_done (view_tests 2 (length bs') len (length ls)) (no_room (length out) (length ls) ∷ []) accepted ∙ sym (room_right (length out) (length ls) enough) in
      record {
        done = d;
        capitals = e ∙ (λ i. if_done (d i) (map letter (stretch i) ++ drop (length ls) out) out) ∙ ap (λ (l : List ℕ). l ++ drop (length ls) out) (codes_back ls t);
      }

  -- a word of them, up to what so many bits hold
  judged : (bits : ℕ) → first (word_tests 2 (length bs') len (length ls) 0 bits) ≡ first (bad_word 0 (bits / 2) (length ls) ∷ [])
  judged bits = first_done (view_tests 2 (length bs') len (length ls)) (bad_word 0 (bits / 2) (length ls) ∷ []) accepted

-- a push that is done, and the stretch that it answers
module _ (p : Call 3 (push·kinds.ps the_row the_row_laws) (push·kinds.r the_row the_row_laws) (push.Post the_row the_row_laws ghosts dict)) (d : (pushed_says p.says).no ≡ 0) where
  abbrev store : List ℕ
  store = p.given.0.now

  abbrev at : ℕ
  at = p.given.1.0.0

  abbrev letters : List ℕ
  letters = p.given.1.1.0.now

  push_done : outcome 2 (length store) at (push_ascii letters) ≡ Ok tt
  unfolding answered
  push_done =
      let o : Outcome = outcome 2 (length store) at (push_ascii letters) in
      let zero : number_of o ≡ 0 = sym (ap (λ (a : _). a.no) p.meets.0) ∙ d in
      sym (outcome_at_number o) ∙ ap outcome_at zero ∙ outcome_at_number (Ok tt)

  push_span : (pushed_says p.says).values ≡ (at, at + length letters, at + length letters)
  unfolding answered
  push_span = ap (λ (a : _). a.values) p.meets.0 ∙ ap (λ (o : Outcome). if_done o (at, at + length letters, at + length letters) (0, 0, at)) push_done

  -- a view of that stretch
  abbrev Stretch : List ℕ → ℕ → ℕ → Type 0
  Stretch bytes offset count = (bytes ≡ p.left.0.now) × ((offset ≡ (pushed_says p.says).values.0) × (offset + count ≡ (pushed_says p.says).values.1))

  -- is the view of the letters
  stretch_is : {A : Type 0} (f : List ℕ → ℕ → ℕ → A) (bytes : List ℕ) (offset count : ℕ) → Stretch bytes offset count
      → f bytes offset count ≡ f (after 2 store at (push_ascii letters)) at (length letters)
  stretch_is f bytes offset count v =
      let o : offset ≡ at = v.1.0 ∙ ap (λ (t : ℕ × ℕ × ℕ). t.0) push_span in
      let e : offset + count ≡ at + length letters = v.1.1 ∙ ap (λ (t : ℕ × ℕ × ℕ). t.1) push_span in
      let n : count ≡ length letters = omega (arith, o, e) in
      λ i. f ((v.0 ∙ p.meets.1) i) (o i) (n i)

  -- what was pushed of the ten letters is unpacked as their capitals
  pub letters_back : (u : Call 2 view·kinds.ps view·kinds.r view.Post) → Stretch u.given.0.now u.given.1.0.0 u.given.1.1.0.0
      → Letters letters → length letters ≤ length u.given.1.1.1.0.now → Back u.says letters u.given.1.1.1.0.now u.left.1.1.1.0.now
  letters_back u v t enough =
      let out : List ℕ = u.given.1.1.1.0.now in
      unpacked store at letters push_done t out enough u.says u.left.1.1.1.0.now
      (u.meets.0 ∙ stretch_is (λ bs o n. unpack_outcome bs o n out) u.given.0.now u.given.1.0.0 u.given.1.1.0.0 v)
      (u.meets.1 ∙ stretch_is (λ bs o n. if_done u.says (unpacked_over bs o n out) out) u.given.0.now u.given.1.0.0 u.given.1.1.0.0 v)

  -- and the word of what was pushed, of any letters, is the word that they pack to; over 32 of them, both are refused alike
  pub word-of_pushed : (x : Call 2 (as-u64·kinds.ps the_row the_row_laws) (as-u64·kinds.r the_row the_row_laws) (as-u64.Post the_row the_row_laws ghosts dict)) (k : Call 1 pack·kinds.ps pack·kinds.r pack.Post)
      → Stretch x.given.0.now x.given.1.0.0 x.given.1.1.0.0 → k.given.0.now ≡ letters → x.says ≡ k.says
  unfolding as_u64
  word-of_pushed x k v same =
      says-once told x.says k.says
      (x.meets
      ∙ stretch_is (as_u64 2) x.given.0.now x.given.1.0.0 x.given.1.1.0.0 v
      ∙ (λ i. answer (judged store at letters push_done 64 i) (word 2 (stretch store at letters push_done i)) 0)
      ∙ sym (k.meets ∙ ap (λ (ls : List ℕ). answer (first (bad_word 0 32 (length ls) ∷ [])) (word 2 (map lossy ls)) 0) same))

  -- over 64, those of two halves
  pub word-128_of_pushed : (x : Call 2 (as-u128·kinds.ps the_row the_row_laws) (as-u128·kinds.r the_row the_row_laws) (as-u128.Post the_row the_row_laws ghosts dict)) (k : Call 1 pack128·kinds.ps pack128·kinds.r pack128.Post)
      → Stretch x.given.0.now x.given.1.0.0 x.given.1.1.0.0 → k.given.0.now ≡ letters → x.says ≡ k.says
  unfolding as_u128
  word-128_of_pushed x k v same =
      says-once word128_told x.says k.says
      (x.meets
      ∙ stretch_is (as_u128 2) x.given.0.now x.given.1.0.0 x.given.1.1.0.0 v
      ∙ (λ i. answer (judged store at letters push_done 128 i) (halves (word 2 (stretch store at letters push_done i))) (halves 0))
      ∙ sym (k.meets ∙ ap (λ (ls : List ℕ). answer (first (bad_word 0 64 (length ls) ∷ [])) (halves (word 2 (map lossy ls))) (halves 0)) same))

-- characters reversed and complemented twice
map-reverse : (f : ℕ → ℕ) (cs : List ℕ) → map f (reverse cs) ≡ reverse (map f cs)
map-reverse f [] = refl
map-reverse f (c ∷ cs) =
    ap (map f) (reverse-cons c cs) ∙ map-append f (reverse cs) (c ∷ []) ∙ ap (λ (l : List ℕ). l ++ (f c ∷ [])) (map-reverse f cs) ∙ sym (reverse-cons (f c) (map f cs))

xor_twice : (c : ℕ) → c < 4 → bit_xor (bit_xor c 2) 2 ≡ c
xor_twice zero h = refl
xor_twice (suc zero) h = refl
xor_twice (suc (suc zero)) h = refl
xor_twice (suc (suc (suc zero))) h = refl
xor_twice (suc (suc (suc (suc c)))) h = absurd (omega arith)

complement-twice : (w c : ℕ) → c < 2 ^ w → complement w (complement w c) ≡ c
complement-twice w c h =
    cases (eqb w 2) refl
  where
    cases : (t : Bool) → eqb w 2 ≡ t → pick t (bit_xor (pick t (bit_xor c 2) c) 2) (pick t (bit_xor c 2) c) ≡ c
    cases true e = xor_twice c (subst (λ (v : ℕ). c < 2 ^ v) (eqb-true w 2 e) h)
    cases false e = refl

flipped-twice : (w : ℕ) (cs : List ℕ) → Below w cs → flipped w (flipped w cs) ≡ cs
flipped-twice w cs h = ap reverse (map-reverse (complement w) (map (complement w) cs)) ∙ reverse-reverse (map (complement w) (map (complement w) cs)) ∙ each cs h
  where
    each : (cs : List ℕ) → Below w cs → map (complement w) (map (complement w) cs) ≡ cs
    each [] h = refl
    each (c ∷ cs) h = ap₂ (λ (x : ℕ) (xs : List ℕ). x ∷ xs) (complement-twice w c h.0) (each cs h.1)

-- a view that a call reverses, the buffer before and after it, and its outcome
pub record Reversal : Type 0 where
  pub bytes : List ℕ
  pub offset : ℕ
  pub count : ℕ
  pub out : List ℕ
  pub left : List ℕ
  pub outcome : Outcome

abbrev Reverses : ℕ → Reversal → Type 0
Reverses w p =
    (p.outcome ≡ flip_outcome w p.bytes p.offset p.count p.out)
    × (p.left ≡ if_done p.outcome (flipped_over w p.bytes p.offset p.count p.out) p.out)

-- an accepted view is reversed to a buffer that has room and may be a view's, and that is reversed to one that has room: both are done, and the view's
-- characters are there again
abbrev pub Twice : ℕ → Reversal → Reversal → Type 0
Twice w p q =
    first (view_tests w (length p.bytes) p.offset p.count) ≡ Ok tt → up w p.count + trailing ≤ length p.out → length p.out ≤ 2 ^ 28
    → q.bytes ≡ p.left → q.offset ≡ 0 → q.count ≡ p.count → up w p.count + trailing ≤ length q.out
    → (p.outcome ≡ Ok tt) × ((q.outcome ≡ Ok tt) × (chars w q.left 0 p.count ≡ chars w p.bytes p.offset p.count))

flipped-length : {w : ℕ} → IsWidth w → (bs : List ℕ) (o n : ℕ) (out : List ℕ) → up w n + trailing ≤ length out → length (flipped_over w bs o n out) ≡ length out
unfolding flipped_over
flipped-length {w} W bs o n out h =
    let a = length-append (packed w (flipped w (chars w bs o n))) (replicate trailing 0 ++ drop (up w n + trailing) out) in
    let b = length-append (replicate trailing 0) (drop (up w n + trailing) out) in
    omega (arith, a, b, packed-long W bs o n, length-replicate {A = ℕ} trailing 0, length-drop (up w n + trailing) out)

flip_done : (w : ℕ) (bs : List ℕ) (o n : ℕ) (out : List ℕ) → first (view_tests w (length bs) o n) ≡ Ok tt → up w n + trailing ≤ length out → flip_outcome w bs o n out ≡ Ok tt
unfolding flip_outcome
flip_done w bs o n out sound h =
    first_done (view_tests w (length bs) o n) (no_room (length out) (up w n + trailing) ∷ []) sound ∙ sym (room_right (length out) (up w n + trailing) h)

twice : {w : ℕ} → IsWidth w → (p q : Reversal) → Reverses w p → Reverses w q → Twice w p q
twice {w} W p q f g sound h l eb eo ec h' =
    let n : ℕ = p.count in
    let mid : List ℕ = flipped_over w p.bytes p.offset n p.out in
    let long : length mid ≡ length p.out = flipped-length W p.bytes p.offset n p.out h in
    let d : p.outcome ≡ Ok tt = f.0 ∙ flip_done w p.bytes p.offset n p.out sound h in
    let left : q.bytes ≡ mid = eb ∙ f.1 ∙ ap (λ (o : Outcome). if_done o mid p.out) d in
    let again : first (view_tests w (length mid) 0 n) ≡ Ok tt = accepted_at W mid 0 n (omega (arith, long)) (rw zero-add (omega (arith, long))) in
    let e : q.outcome ≡ Ok tt = g.0 ∙ (λ i. flip_outcome w (left i) (eo i) (ec i) q.out) ∙ flip_done w mid 0 n q.out again h' in
    let last : q.left ≡ flipped_over w mid 0 n q.out = g.1 ∙ (λ i. if_done (e i) (flipped_over w (left i) (eo i) (ec i) q.out) q.out) in
    let back : flipped w (chars w mid 0 n) ≡ chars w p.bytes p.offset n
    = ap (flipped w) (flipped-chars W p.bytes p.offset n p.out) ∙ flipped-twice w (chars w p.bytes p.offset n) (chars-fit w p.bytes p.offset n) in
    (d, (e, ap (λ (bs : List ℕ). chars w bs 0 n) last ∙ flipped-chars W mid 0 n q.out ∙ back))

-- at every width W
module _ (T : RattleType) (L : Laws T) (W : Ghosts T.Denot) (D : Dict) where
  abbrev pub revcomp : Call 3 (flip·kinds.ps T L) (flip·kinds.r T L) (flip.Post T L W D) → Reversal
  revcomp c = record {
    bytes = c.given.0.now;
    offset = c.given.1.0.0;
    count = c.given.1.1.0.0;
    out = c.given.1.1.1.0.now;
    left = c.left.1.1.1.0.now;
    outcome = c.says;
  }

  pub revcomp_twice : (p q : Call 3 (flip·kinds.ps T L) (flip·kinds.r T L) (flip.Post T L W D)) → Twice W.BITS (revcomp p) (revcomp q)
  revcomp_twice p q = twice W.divides (revcomp p) (revcomp q) p.meets q.meets
