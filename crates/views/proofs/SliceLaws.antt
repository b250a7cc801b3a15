-- What slicing and normalising do to the characters: a part that is handed back is accepted again, a slice has the characters from its start up to its end, and normalising keeps them all.
-- Assumes nothing.
use Rattle.std.specs.Prelude.{Ok, Err}
use mathlib.Core.List.{List, [], ◌∷◌}
use mathlib.Core.Path.{◌≡◌, refl, sym, ap, ◌∙◌, subst}
use Prim.Native.Nat.{ℕ, ◌+◌, ◌-◌, ◌*◌, ◌/◌, ◌%◌, ◌^◌, ◌≤◌}
use native.Mathlib.Nat.{add-sub_of_le, add-mul, div-add-mod'}
use native.Mathlib.Omega.{arith}
use lib.Dec.{ltb, leb}
use lib.ListN.{length, get_or, take, drop, length-drop}
use lib.Seq.{length-take-le, take_at, drop_at, get_or-take, get_or-drop}
use borrow.Author.Tests.{le-ltb, le-leb}
use Rattle.codes.specs.Codes.{IsWidth, per, up, trailing, chars}
use Rattle.codes.specs.Refusals.{Test, Answer, if_done, answer, first, bad_index, bad_end, bad_start, bad_view, view_tests, Outcome}
use Rattle.codes.specs.declared.refusals.Refusal.TheVariants.{TooLong, BadView, BadRange}
use Rattle.codes.proofs.CharLaws.{length-chars, chars-append}
use Rattle.codes.proofs.WidthLaws.{up-hi, below_or}
use Rattle.codes.proofs.OutcomeLaws.{first_next, first_holds, first_done, first_refused, first_both}
use Rattle.fields.specs.Fields.{slice_tests, got}
use Rattle.fields.specs.Spans.{Span, normal_part}
use Rattle.fields.proofs.ViewLaws.{Room, view_accepted, slice_cut, room_start, room_end, normal-length, normal-chars}
use Rattle.views.specs.Views.{Lent, lent, empty, normal, made, sliced, normalised, got_sliced}

-- a part is an accepted view with these characters
pub record Holds (w : ℕ) (cs : List ℕ) (p : Lent) : Type 0 where
  pub accepted : first (view_tests w (length p.span.bytes) p.offset p.len) ≡ Ok tt
  pub characters : chars w p.span.bytes p.offset p.len ≡ cs

pub room_done : (w n o len : ℕ) → Room w n o len → first (view_tests w n o len) ≡ Ok tt
room_done w n o len r =
    first_next (ltb (2 ^ 28) n) TooLong (bad_view w n o len ∷ []) (le-ltb (2 ^ 28) n r.small)
    ∙ first_next (ltb (n * per w) (o + len + trailing * per w)) BadView [] (le-ltb (n * per w) (o + len + trailing * per w) r.fits)

-- the characters from start up to end
pub chars-between : (w : ℕ) (bs : List ℕ) (o len start end : ℕ) → start ≤ end → end ≤ len → chars w bs (o + start) (end - start) ≡ take (end - start) (drop start (chars w bs o len))
chars-between w bs o len start end l m =
    let n : ℕ = end - start in
    sym (ap (λ (cs : List ℕ). take n (drop start cs)) (ap (chars w bs o) (sym whole) ∙ chars-append w bs o start (n + (len - end)))
    ∙ ap (take n) (drop_at (chars w bs o start) (chars w bs (o + start) (n + (len - end))) start (length-chars w bs o start) ∙ chars-append w bs (o + start) n (len - end))
    ∙ take_at (chars w bs (o + start) n) (chars w bs (o + start + n) (len - end)) n (length-chars w bs (o + start) n))
  where
    whole : start + (end - start + (len - end)) ≡ len
    whole = omega arith

-- where a call is done, its part holds what it should
pub held : {w : ℕ} {cs : List ℕ} {q : Outcome} (p z : Lent) → q ≡ Ok tt → Holds w cs p → ((answer q p z).no ≡ 0) × Holds w cs (answer q p z).values
held {w} {cs} {q} p z d h = subst (λ (x : Outcome). ((answer x p z).no ≡ 0) × Holds w cs (answer x p z).values) (sym d) (refl, h)

module _ {w : ℕ} (s : Span) (o len : ℕ) (e : first (view_tests w (length s.bytes) o len) ≡ Ok tt) where
  pub sliced-holds : (start end : ℕ) → start ≤ end → end ≤ len
      → ((sliced w s o len start end).no ≡ 0) × Holds w (take (end - start) (drop start (chars w s.bytes o len))) (sliced w s o len start end).values
  unfolding sliced
  sliced-holds start end l m =
      let r = view_accepted w (length s.bytes) o len e in
      let d : first (slice_tests w (length s.bytes) o len start end) ≡ Ok tt = first_done (view_tests w (length s.bytes) o len) (bad_end len end ∷ bad_start start end ∷ []) e
      ∙ first_next (ltb len end) BadRange (bad_start start end ∷ []) (le-ltb len end m) ∙ first_next (ltb end start) BadRange [] (le-ltb end start l) in
      held (lent s (o + start) (end - start)) (empty s) d
      (record {
        accepted = room_done w (length s.bytes) (o + start) (end - start) (record { small = r.small; fits = omega (arith, r.fits) });
        characters = chars-between w s.bytes o len start end l m;
      })

  pub normal-holds : IsWidth w → Holds w (chars w s.bytes o len) (normal w s o len)
  normal-holds W =
      let r = view_accepted w (length s.bytes) o len e in
      let from : ℕ = o / per w in
      let to : ℕ = up w (o + len) + trailing in
      let a = add-mul from (to - from) (per w) in
      let b : from + (to - from) ≡ to = add-sub_of_le (room_start W r) in
      let c : (from + (to - from)) * per w ≡ to * per w = ap (λ (x : ℕ). x * per w) b in
      record {
        accepted = room_done w (length (normal_part w s o len).bytes) (o % per w) len (record {
          small = omega (arith, r.small, room_end W r, normal-length W s o len r);
          fits = rw (normal-length W s o len r) (omega (arith, add-mul (up w (o + len)) trailing (per w), up-hi W (o + len), div-add-mod' o (per w)));
        });
        characters = normal-chars W s o len r;
      }

  pub normalised-holds : IsWidth w → ((normalised w s o len).no ≡ 0) × Holds w (chars w s.bytes o len) (normalised w s o len).values
  unfolding normalised
  normalised-holds W = held (normal w s o len) (empty s) e (normal-holds W)

  pub made_holds : Holds w (chars w s.bytes o len) (made w s o len).values
  unfolding made
  made_holds = (held (lent s o len) (empty s) e (record { accepted = e; characters = refl })).1

-- the calls on a part that was handed back
abbrev pub got_of : ℕ → Lent → ℕ → Answer ℕ
got_of w p i = got w p.span.bytes p.offset p.len i

abbrev pub sliced_of : ℕ → Lent → ℕ → ℕ → Answer Lent
sliced_of w p start end = sliced w p.span p.offset p.len start end

abbrev pub normalised_of : ℕ → Lent → Answer Lent
normalised_of w p = normalised w p.span p.offset p.len

-- on one that holds the characters cs
module _ {w : ℕ} {cs : List ℕ} (p : Lent) (h : Holds w cs p) where
  length-held : p.len ≡ length cs
  length-held = sym (length-chars w p.span.bytes p.offset p.len) ∙ ap length h.characters

  pub sliced_of_holds : (start end : ℕ) → start ≤ end → end ≤ length cs → Holds w (take (end - start) (drop start cs)) (sliced_of w p start end).values
  sliced_of_holds start end l m =
      subst (λ (xs : List ℕ). Holds w (take (end - start) (drop start xs)) (sliced_of w p start end).values) h.characters
      (sliced-holds p.span p.offset p.len h.accepted start end l (omega (arith, length-held))).1

  pub normalised_of_holds : IsWidth w → Holds w cs (normalised_of w p).values
  normalised_of_holds W = subst (λ (xs : List ℕ). Holds w xs (normalised_of w p).values) h.characters (normalised-holds p.span p.offset p.len h.accepted W).1

  pub got_of_is : (i : ℕ) → got_of w p i ≡ answer (first (bad_index (length cs) i ∷ [])) (get_or cs i 0) 0
  unfolding got
  got_of_is i =
      let ts : List Test = view_tests w (length p.span.bytes) p.offset p.len in
      let d = first_done ts (bad_index p.len i ∷ []) h.accepted ∙ ap (λ (n : ℕ). first (bad_index n i ∷ [])) length-held in
      λ j. answer (d j) (get_or (h.characters j) i 0) 0

-- a character of a view that is made, sliced and normalised is one of the slice; a refusal of the view or of the slice goes first
module _ {w : ℕ} (W : IsWidth w) (s : Span) (o len start end i : ℕ) where
  abbrev tests : List Test
  tests = slice_tests w (length s.bytes) o len start end

  abbrev read : Answer ℕ
  read = got_of w (normalised_of w (sliced_of w (made w s o len).values start end).values).values i

  within : first tests ≡ Ok tt → read ≡ answer (first (bad_index (end - start) i ∷ [])) (get_or (chars w s.bytes o len) (start + i) 0) 0
  within d =
      let cut = slice_cut w (length s.bytes) o len start end d in
      let cs : List ℕ = chars w s.bytes o len in
      let n : ℕ = end - start in
      let e = (first_both (view_tests w (length s.bytes) o len) (bad_end len end ∷ bad_start start end ∷ []) d).0 in
      let h = sliced_of_holds (made w s o len).values (made_holds s o len e) start end cut.starts (rw length-chars cut.ends) in
      let long : length (take n (drop start cs)) ≡ n = length-take-le n (drop start cs) (rw (length-drop, length-chars) (omega (arith, cut.ends))) in
      let p : Lent = (sliced_of w (made w s o len).values start end).values in
      got_of_is (normalised_of w p).values (normalised_of_holds p h W) i
      ∙ ap (λ (k : ℕ). answer (first (bad_index k i ∷ [])) (get_or (take n (drop start cs)) i 0) 0) long
      ∙ below_or i n
      (λ l. ap (λ (v : ℕ). answer (first (bad_index n i ∷ [])) v 0) (get_or-take n (drop start cs) i 0 l ∙ get_or-drop start cs i 0))
      (λ l.
      let f = first_holds (leb n i) BadRange [] (le-leb n i l) in
      ap (λ (q : Outcome). answer q (get_or (take n (drop start cs)) i 0) 0) f ∙ sym (ap (λ (q : Outcome). answer q (get_or cs (start + i) 0) 0) f))

  pub got_sliced-is : if_done (first tests) read (answer (first tests) 0 0) ≡ got_sliced w s.bytes o len start end i
  unfolding got_sliced
  got_sliced-is = cases (first tests) refl
    where
      cases : (q : Outcome) → first tests ≡ q → if_done q read (answer q 0 0) ≡ got_sliced w s.bytes o len start end i
      cases (Ok tt) d = within d ∙ sym (ap (λ (q : Outcome). answer q (get_or (chars w s.bytes o len) (start + i) 0) 0) (first_done tests (bad_index (end - start) i ∷ []) d))
      cases (Err r) d = sym (ap (λ (q : Outcome). answer q (get_or (chars w s.bytes o len) (start + i) 0) 0) (first_refused tests (bad_index (end - start) i ∷ []) r d))
